-- What a rule of the grammar sees of the next token.
use Rattle.std.specs.Prelude.{◌==◌, ℕ, Bool, ◌||◌, List, [], ◌∷◌, if◌then◌else◌, encode_utf8_all}
use Rattle.sl_ast.specs.declared.token.Token.{Token}
use Rattle.sl_ast.specs.declared.token.TokenKind.{TokenKind}
use Rattle.sl_ast.specs.declared.token.TokenKind.TheVariants as kind
use Rattle.sl_ast.specs.declared.shape.Shape.{Shape}
use Rattle.sl_ast.specs.declared.shape.Shape.TheVariants as shapes
use Rattle.sl_ast.specs.Shape.{shape}
use Rattle.sl_parse_expr.specs.declared.ahead.Ahead.{Ahead}
use Rattle.sl_parse_expr.specs.declared.ahead.Ahead.TheVariants as k

-- of a token of this shape, operators apart
abbrev pub of_shape : Shape → Ahead
of_shape shapes.Id = k.Id
of_shape shapes.Newline = k.Newline
of_shape shapes.Abstract = k.Abstract
of_shape shapes.Case = k.Case
of_shape shapes.Catch = k.Catch
of_shape shapes.Class = k.Class
of_shape shapes.Def = k.Def
of_shape shapes.Else = k.Else
of_shape shapes.Extends = k.Extends
of_shape shapes.Finally = k.Finally
of_shape shapes.If = k.If
of_shape shapes.Lazy = k.Lazy
of_shape shapes.Match = k.Match
of_shape shapes.New = k.New
of_shape shapes.Object = k.Object
of_shape shapes.Override = k.Override
of_shape shapes.Private = k.Private
of_shape shapes.Sealed = k.Sealed
of_shape shapes.Super = k.Super
of_shape shapes.This = k.This
of_shape shapes.Throw = k.Throw
of_shape shapes.Trait = k.Trait
of_shape shapes.Try = k.Try
of_shape shapes.Val = k.Val
of_shape shapes.Var = k.Var
of_shape shapes.While = k.While
of_shape shapes.With = k.With
of_shape shapes.Underscore = k.Underscore
of_shape shapes.Colon = k.Colon
of_shape shapes.Equals = k.Equals
of_shape shapes.Arrow = k.Arrow
of_shape shapes.At = k.At
of_shape shapes.OpenParen = k.OpenParen
of_shape shapes.CloseParen = k.CloseParen
of_shape shapes.OpenBracket = k.OpenBracket
of_shape shapes.CloseBracket = k.CloseBracket
of_shape shapes.OpenBrace = k.OpenBrace
of_shape shapes.CloseBrace = k.CloseBrace
of_shape shapes.Comma = k.Comma
of_shape shapes.Semicolon = k.Semicolon
of_shape shapes.Dot = k.Dot
of_shape shapes.Number = k.Literal
of_shape shapes.Text = k.Literal
of_shape shapes.True = k.Literal
of_shape shapes.False = k.Literal
of_shape shapes.Null = k.Literal
of_shape other = k.Other

-- of an operator, by the bytes of its text: `-` (45), `|` (124), one of `+` (43), `!` (33) and `~` (126), or another
abbrev pub of_operator : List ℕ → Ahead
of_operator (b ∷ []) = if b == 45 then k.Minus else if b == 124 then k.Bar else if (b == 43) || (b == 33) || (b == 126) then k.Sign else k.Op
of_operator text = k.Op

-- of a token of this kind
abbrev pub of_kind : TokenKind → Ahead
of_kind (kind.Op text) = of_operator (encode_utf8_all text)
of_kind other = of_shape (shape other)

-- what a rule sees of a token
unfoldable pub sort : Token → Ahead
sort t = of_kind t.kind

-- a number for each, by which they are told apart
abbrev pub code : Ahead → ℕ
code k.End = 0
code k.Newline = 1
code k.Semicolon = 2
code k.Id = 3
code k.Minus = 4
code k.Bar = 5
code k.Sign = 6
code k.Op = 7
code k.Literal = 8
code k.If = 9
code k.While = 10
code k.Try = 11
code k.Throw = 12
code k.This = 13
code k.Super = 14
code k.New = 15
code k.Else = 16
code k.Catch = 17
code k.Finally = 18
code k.Match = 19
code k.Case = 20
code k.Val = 21
code k.Var = 22
code k.Class = 23
code k.Object = 24
code k.Trait = 25
code k.Extends = 26
code k.With = 27
code k.Lazy = 28
code k.Def = 29
code k.Override = 30
code k.Private = 31
code k.Sealed = 32
code k.Abstract = 33
code k.Underscore = 34
code k.Colon = 35
code k.Equals = 36
code k.Arrow = 37
code k.At = 38
code k.OpenParen = 39
code k.CloseParen = 40
code k.OpenBracket = 41
code k.CloseBracket = 42
code k.OpenBrace = 43
code k.CloseBrace = 44
code k.Comma = 45
code k.Dot = 46
code k.Other = 47

-- the two are one
abbrev pub same : Ahead → Ahead → Bool
same a b = code a == code b
