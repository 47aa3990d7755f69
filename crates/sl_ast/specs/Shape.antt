-- What a grammar sees of a token: its kind without text and value, and which keyword or mark it is.
use Rattle.std.specs.Prelude.{ℕ, List, Option, Some, None, slice_get}
use Rattle.sl_ast.specs.declared.shape.Shape.{Shape}
use Rattle.sl_ast.specs.declared.shape.Shape.TheVariants as shapes
use Rattle.sl_ast.specs.declared.token.TokenKind.{TokenKind}
use Rattle.sl_ast.specs.declared.token.TokenKind.TheVariants as kind
use Rattle.sl_ast.specs.declared.shape.TheConstants.{KEYWORDS, MARKS}

-- the shape with this number in a table
abbrev pub in_table : Option Shape → Shape
in_table (Some found) = found
in_table None = shapes.Unknown

-- the shape with a number in a table, `Unknown` past its end
abbrev pub numbered : List Shape → ℕ → Shape
numbered table number = in_table (slice_get table number)

-- what of a token the grammar looks at
abbrev pub shape : TokenKind → Shape
shape (kind.Id name) = shapes.Id
shape (kind.Op name) = shapes.Op
shape (kind.Key number) = numbered KEYWORDS number
shape (kind.Mark number) = numbered MARKS number
shape (kind.Number value) = shapes.Number
shape (kind.Text content) = shapes.Text
shape kind.Newline = shapes.Newline
