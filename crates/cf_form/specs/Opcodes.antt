-- The table of opcodes (JVMS 6.5).
use Rattle.std.specs.Prelude.{ℕ, ◌<◌, List, [], ◌∷◌, Option, None, Some, nat_eq, if◌then◌else◌}
use Rattle.cf_form.specs.declared.op_form.OpForm.{OpForm}
use Rattle.cf_form.specs.declared.op_form.TheConstants.{FORMS}
use Rattle.cf_form.specs.declared.shape.Shape.{Shape}

-- the shape that an opcode has among these rows
abbrev pub shape_among : List OpForm → ℕ → Option Shape
shape_among [] op = None
shape_among (row ∷ rows) op = if nat_eq op row.op then Some row.shape else shape_among rows op

-- what follows an opcode; None where no row has it
unfoldable pub shape_of : ℕ → Option Shape
shape_of op = shape_among FORMS op

-- each number is above the one before it
abbrev pub IsRising : List ℕ → Type 0
IsRising [] = Unit {0}
IsRising (op ∷ []) = Unit {0}
IsRising (op ∷ next ∷ ops) = (op < next) × IsRising (next ∷ ops)
