-- What single tokens are in trees.
use Rattle.std.specs.Prelude.{◌==◌, ℕ, Bool, ◌||◌, List, [], ◌∷◌, Option, Some, None, if◌then◌else◌, encode_utf8_all}
use Rattle.sl_text.specs.declared.span.Span.{Span}
use Rattle.sl_ast.specs.declared.token.Token.{Token}
use Rattle.sl_ast.specs.declared.token.TokenKind.{TokenKind}
use Rattle.sl_ast.specs.declared.token.TokenKind.TheVariants as kind
use Rattle.sl_ast.specs.declared.shape.Shape.{Shape}
use Rattle.sl_ast.specs.declared.shape.Shape.TheVariants as shapes
use Rattle.sl_ast.specs.Shape.{shape}
use Rattle.sl_ast.specs.declared.ident.Ident.{Ident}
use Rattle.sl_ast.specs.declared.literal.Literal.{Literal}
use Rattle.sl_ast.specs.declared.literal.Literal.TheVariants as literal
use Rattle.sl_ast.specs.declared.operator.Operator.{Operator}
use Rattle.sl_ast.specs.declared.operator.Operator.TheVariants as operator
use Rattle.sl_ast.specs.declared.operator.Sign.{Sign}
use Rattle.sl_ast.specs.declared.operator.Sign.TheVariants as sign
use Rattle.sl_ast.specs.declared.binding.Binding.{Binding}
use Rattle.sl_ast.specs.declared.binding.Binding.TheVariants as binding
use Rattle.sl_parse_expr.specs.declared.ahead.Ahead.{Ahead}
use Rattle.sl_parse_expr.specs.declared.ahead.Ahead.TheVariants as see
use Rattle.sl_parse_expr.specs.Ahead.{sort, same}

-- a name at this span, of a token of this kind
abbrev pub ident_by : TokenKind → Span → Option Ident
ident_by (kind.Id name) s = Some (record { name = name; span = s })
ident_by other s = None

-- a name
unfoldable pub ident_of : Token → Option Ident
ident_of t = ident_by t.kind t.span

-- an operator at this span, of a token of this kind
abbrev pub operator_by : TokenKind → Span → Option Operator
operator_by (kind.Id name) s = Some (operator.Id (record { name = name; span = s }))
operator_by (kind.Op name) s = Some (operator.Op (record { name = name; span = s }))
operator_by other s = None

-- an operator between two operands
unfoldable pub operator_of : Token → Option Operator
operator_of t = operator_by t.kind t.span

-- an operator before its operand, by the bytes of its text: `-`, `+`, `!` or `~`
abbrev pub sign_text : List ℕ → Span → Option (Sign × Span)
sign_text (b ∷ []) s = if b == 45 then Some (sign.Minus, s) else if b == 43 then Some (sign.Plus, s) else if b == 33 then Some (sign.Not, s) else if b == 126 then Some (sign.Complement, s) else None
sign_text text s = None

-- an operator before its operand, of a token of this kind
abbrev pub sign_by : TokenKind → Span → Option (Sign × Span)
sign_by (kind.Op text) s = sign_text (encode_utf8_all text) s
sign_by other s = None

-- an operator before its operand
unfoldable pub sign_of : Token → Option (Sign × Span)
sign_of t = sign_by t.kind t.span

-- `true`, `false` or `null`
abbrev pub literal_word : Shape → Span → Option Literal
literal_word shapes.True s = Some (literal.True s)
literal_word shapes.False s = Some (literal.False s)
literal_word shapes.Null s = Some (literal.Null s)
literal_word other s = None

-- a literal at this span, of a token of this kind
abbrev pub literal_by : TokenKind → Span → Option Literal
literal_by (kind.Number value) s = Some (literal.Number value s)
literal_by (kind.Text content) s = Some (literal.Text content s)
literal_by other s = literal_word (shape other) s

-- a literal
unfoldable pub literal_of : Token → Option Literal
literal_of t = literal_by t.kind t.span

-- `val` or `var` at this span
abbrev pub binding_by : Ahead → Span → Option (Binding × Span)
binding_by see.Val s = Some (binding.Val, s)
binding_by see.Var s = Some (binding.Var, s)
binding_by o s = None

-- `val` or `var`
unfoldable pub binding_of : Token → Option (Binding × Span)
binding_of t = binding_by (sort t) t.span

-- `;` or a line end
abbrev pub separates : Ahead → Bool
separates o = same see.Semicolon o || same see.Newline o

-- a token that separates
unfoldable pub separator_of : Token → Option (Unit {0})
separator_of t = if separates (sort t) then Some tt else None
