-- Where newlines are enabled, by matching brackets on the list of tokens; and which stand between two tokens (SLS 1.2).
use Rattle.std.specs.Prelude.{◌≡◌, ℕ, ◌==◌, ◌&&◌, Bool, true, false, List, [], ◌∷◌, ◌++◌, Option, Some, None, if◌then◌else◌}
use Rattle.sl_ast.specs.declared.token.Token.{Token}
use Rattle.sl_ast.specs.declared.token.TokenKind.TheVariants.{Newline}
use Rattle.sl_ast.specs.declared.shape.Shape.{Shape}
use Rattle.sl_ast.specs.declared.shape.Shape.TheVariants as k
use Rattle.sl_ast.specs.Shape.{shape}
use Rattle.sl_newline.specs.declared.region.Region.{Region}
use Rattle.sl_newline.specs.declared.region.Region.TheVariants as r
use Rattle.sl_newline.specs.Gaps.{between, newlines}

-- the next token
abbrev pub head : List Token → Option Token
head [] = None
head (t ∷ ts) = Some t

-- the tokens behind the next one
abbrev pub rest : List Token → List Token
rest [] = []
rest (t ∷ ts) = ts

-- the shape of a token, if there is one
abbrev pub shape_of : Option Token → Option Shape
shape_of None = None
shape_of (Some t) = Some (shape t.kind)

-- the shape of the next token
abbrev pub head_shape : List Token → Option Shape
head_shape ts = shape_of (head ts)

-- a `case` before `class` or `object` stands in a definition
abbrev pub defines : Option Shape → Bool
defines (Some k.Class) = true
defines (Some k.Object) = true
defines _ = false

-- the region that a token of this shape opens, by the shape of the next one
abbrev pub opens_by : Shape → Option Shape → Option Region
opens_by k.OpenParen next = Some r.Round
opens_by k.OpenBracket next = Some r.Square
opens_by k.OpenBrace next = Some r.Brace
opens_by k.Case next = if defines next then None else Some r.Case
opens_by _ next = None

-- the region that a token opens, by the next one
abbrev pub opens : Token → Option Token → Option Region
opens t next = opens_by (shape t.kind) (shape_of next)

-- the shape is that of `)`
abbrev pub is_close_paren : Shape → Bool
is_close_paren k.CloseParen = true
is_close_paren _ = false

-- the shape is that of `]`
abbrev pub is_close_bracket : Shape → Bool
is_close_bracket k.CloseBracket = true
is_close_bracket _ = false

-- the shape is that of `}`
abbrev pub is_close_brace : Shape → Bool
is_close_brace k.CloseBrace = true
is_close_brace _ = false

-- the shape is that of `=>`
abbrev pub is_arrow : Shape → Bool
is_arrow k.Arrow = true
is_arrow _ = false

-- a token of this shape is the region's own closing one; nothing closes the top
abbrev pub closes_by : Option Region → Shape → Bool
closes_by None s = false
closes_by (Some r.Round) s = is_close_paren s
closes_by (Some r.Square) s = is_close_bracket s
closes_by (Some r.Brace) s = is_close_brace s
closes_by (Some r.Case) s = is_arrow s

-- a token is the region's own closing one
abbrev pub closes : Option Region → Token → Bool
closes q t = closes_by q (shape t.kind)

-- The tokens from a up to b leave the region open and innermost: they are whole inner regions, and tokens that open nothing
-- and don't close it.
pub data Quiet : Option Region → List Token → List Token → Type 0 where
  done : {q : Option Region} {b : List Token} → Quiet q b b
  pass : {q : Option Region} {t : Token} {a b : List Token} → opens t (head a) ≡ None → closes q t ≡ false → Quiet q a b → Quiet q (t ∷ a) b
  inner : {q : Option Region} {o : Region} {t u : Token} {a b c : List Token} → opens t (head a) ≡ Some o → Quiet (Some o) a (u ∷ b) → closes (Some o) u ≡ true → Quiet q b c → Quiet q (t ∷ a) c

-- the innermost region that is open before b, in the whole list: the top's, or that of an opening token with nothing but what
-- leaves it open in between
pub data Innermost : List Token → List Token → Option Region → Type 0 where
  top : {ts b : List Token} → Quiet None ts b → Innermost ts b None
  of : {ts b : List Token} {q : Region} (before a : List Token) (t : Token) → ts ≡ before ++ (t ∷ a) → opens t (head a) ≡ Some q → Quiet (Some q) a b → Innermost ts b (Some q)

-- newlines are enabled in the region: at the top and between braces
abbrev pub enabled : Option Region → Bool
enabled None = true
enabled (Some r.Brace) = true
enabled _ = false

-- ---- which tokens newlines stand between

-- a statement can end with a token of this shape
abbrev pub can_end : Shape → Bool
can_end k.Id = true
can_end k.Op = true
can_end k.Number = true
can_end k.Text = true
can_end k.This = true
can_end k.Null = true
can_end k.True = true
can_end k.False = true
can_end k.Return = true
can_end k.TypeWord = true
can_end k.Underscore = true
can_end k.CloseParen = true
can_end k.CloseBracket = true
can_end k.CloseBrace = true
can_end _ = false

-- a statement can begin with a token of this shape, by the shape of the next one
abbrev pub can_begin : Shape → Option Shape → Bool
can_begin k.Catch next = false
can_begin k.Else next = false
can_begin k.Extends next = false
can_begin k.Finally next = false
can_begin k.ForSome next = false
can_begin k.Match next = false
can_begin k.With next = false
can_begin k.Yield next = false
can_begin k.Comma next = false
can_begin k.Dot next = false
can_begin k.Semicolon next = false
can_begin k.Colon next = false
can_begin k.Equals next = false
can_begin k.Arrow next = false
can_begin k.LeftArrow next = false
can_begin k.UpperBound next = false
can_begin k.ViewBound next = false
can_begin k.LowerBound next = false
can_begin k.Hash next = false
can_begin k.OpenBracket next = false
can_begin k.CloseParen next = false
can_begin k.CloseBracket next = false
can_begin k.CloseBrace next = false
can_begin k.Case next = defines next
can_begin _ next = true

-- a newline, with the empty span at the end of the token before it
abbrev pub newline_at : ℕ → Token
newline_at at = record { kind = Newline; span = record { from = at; to = at } }

-- so many newlines, at most two
abbrev pub lines_of : ℕ → ℕ → List Token
lines_of at n = if n == 0 then [] else (if n == 1 then newline_at at ∷ [] else newline_at at ∷ newline_at at ∷ [])

-- what is inserted in the region q before the token u, behind the token `last`
abbrev pub inserted_by : List ℕ → Option Region → Option Token → Token → Option Shape → List Token
inserted_by text q None u next = []
inserted_by text q (Some t) u next =
    if (enabled q && can_end (shape t.kind)) && can_begin (shape u.kind) next
    then lines_of t.span.to (newlines (between text t.span u.span)) else []

-- the same, by the token that follows u
abbrev pub inserted : List ℕ → Option Region → Option Token → Token → Option Token → List Token
inserted text q last u next = inserted_by text q last u (shape_of next)

-- b is what is left of the tokens ts behind `last`, and out is b with its newlines
pub data Sep (text : List ℕ) (ts : List Token) : Option Token → List Token → List Token → Type 0 where
  done : {last : Option Token} → Sep text ts last [] []
  with_lines : {last : Option Token} {u : Token} {b out : List Token} {q : Option Region}
      → Innermost ts (u ∷ b) q → Sep text ts (Some u) b out
      → Sep text ts last (u ∷ b) (inserted text q last u (head b) ++ (u ∷ out))

-- the tokens of a text with newlines between them
abbrev pub Separated : List ℕ → List Token → List Token → Type 0
Separated text ts out = Sep text ts None ts out

-- ---- for proofs only: the regions that are open, the innermost first

-- the innermost region, if one is open
abbrev pub front : List Region → Option Region
front [] = None
front (q ∷ s) = Some q

-- without the innermost region
abbrev pub pop : List Region → List Region
pop [] = []
pop (q ∷ s) = s

-- with a region that is opened, if one is
abbrev pub push : Option Region → List Region → List Region
push None s = s
push (Some q) s = q ∷ s

-- the regions that are open behind a token of this shape
abbrev pub step_by : List Region → Shape → Option Shape → List Region
step_by s t next = if closes_by (front s) t then pop s else push (opens_by t next) s

-- the regions that are open behind a token
abbrev pub step : List Region → Token → Option Token → List Region
step s t next = step_by s (shape t.kind) (shape_of next)
