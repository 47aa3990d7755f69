-- Operands as they stand in bytes.
use Rattle.std.specs.Prelude.{◌≡◌, ◌≢◌, ℕ, ℤ, ◌<◌, List, ◌∷◌, ◌++◌, length, Bool, true, false}
use Rattle.cf_form.specs.declared.shape.Shape.{Shape}
use Rattle.cf_form.specs.declared.shape.Shape.TheVariants.{Plain, Signed1, Signed2, Pool1, Pool2, Local, Step, Jump2, Jump4, Face, Wide}
use Rattle.cf_form.specs.Instructions.{operands, OperandsFit}
use Rattle.cf_instr.specs.declared.code_fault.CodeKind.{CodeKind}
use Rattle.cf_instr.specs.declared.code_fault.CodeKind.TheVariants as kinds

-- how many bytes the operands of a shape take, plain and after `wide`
abbrev pub width : Shape → Bool → ℕ
width Plain wide = 0
width Signed1 wide = 1
width Signed2 wide = 2
width Pool1 wide = 1
width Pool2 wide = 2
width Local false = 1
width Local true = 2
width Step false = 2
width Step true = 4
width Jump2 wide = 2
width Jump4 wide = 4
width Face wide = 4
width Wide wide = 0

-- the bytes are the operands a and b of a shape, and these after them
abbrev pub Reads : Shape → Bool → List ℕ → ℤ → ℤ → List ℕ → Type 0
Reads shape wide bytes a b rest = OperandsFit shape wide a b × (bytes ≡ operands shape wide a b ++ rest)

-- the bytes of the operands of `invokeinterface` don't end with 0
abbrev pub LastIsNotZero : List ℕ → Type 0
LastIsNotZero bytes = (high low count last : ℕ) × (more : List ℕ) × (bytes ≡ high ∷ low ∷ count ∷ last ∷ more) × (last ≢ 0)

-- the bytes don't begin with the operands of `invokeinterface`, though they are long enough
abbrev pub MisreadsFace : Shape → List ℕ → Type 0
MisreadsFace Face bytes = LastIsNotZero bytes
MisreadsFace _ bytes = ⊥

-- why the bytes don't begin with operands of a shape
abbrev pub Misreads : Shape → Bool → List ℕ → CodeKind → Type 0
Misreads shape wide bytes kinds.Opcode = ⊥
Misreads shape wide bytes kinds.Cut = length bytes < width shape wide
Misreads shape wide bytes kinds.Jump = ⊥
Misreads shape wide bytes kinds.Shape = MisreadsFace shape bytes
Misreads shape wide bytes kinds.Memory = ⊥
