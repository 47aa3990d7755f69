-- What is wrong with bytes that are no method's code (JVMS 4.7.3, 4.9.1), and where it is.
use Rattle.std.specs.Prelude.{◌≡◌, ◌≢◌, ◌⊎◌, ℕ, ◌≤◌, ◌<◌, pos, ◌+ℤ◌, List, [], ◌∷◌, ◌++◌, length, slice_get, Option, None, Some, Bool, true, false, IsTrue}
use Rattle.std.specs.List.{flat_map, AllByRecursion}
use Rattle.cf_form.specs.declared.instr.Instr.{Instr}
use Rattle.cf_form.specs.declared.shape.Shape.{Shape}
use Rattle.cf_form.specs.declared.shape.Shape.TheVariants.{Local, Step, Face}
use Rattle.cf_form.specs.Opcodes.{shape_of}
use Rattle.cf_form.specs.Instructions.{bytes_of, Fits, wide_opcode, jumps, offset}
use Rattle.cf_instr.specs.declared.code_fault.CodeFault.{CodeFault}
use Rattle.cf_instr.specs.declared.code_fault.CodeKind.{CodeKind}
use Rattle.cf_instr.specs.declared.code_fault.CodeKind.TheVariants as kinds

-- whole instructions stand before the byte `at`, and these bytes from it on
pub record Begins (bytes : List ℕ) (at : ℕ) (rest : List ℕ) : Type 0 where
  pub front : List Instr
  pub fits : AllByRecursion Fits front
  pub parts : bytes ≡ flat_map bytes_of front ++ rest
  pub here : at ≡ length (flat_map bytes_of front)

-- what may stand after `wide`: a load or a store, or `iinc`
abbrev pub widens : Option Shape → Bool
widens (Some Local) = true
widens (Some Step) = true
widens _ = false

-- the bytes begin with an opcode that may not stand after `wide`
abbrev pub CannotWiden : List ℕ → Type 0
CannotWiden [] = ⊥
CannotWiden (op ∷ _) = widens (shape_of op) ≡ false

-- the bytes begin with an opcode that no row has, or with `wide` before one that it can't stand before
abbrev pub IsUnknown : List ℕ → Type 0
IsUnknown [] = ⊥
IsUnknown (op ∷ more) = (shape_of op ≡ None) ⊎ ((op ≡ wide_opcode) × CannotWiden more)

-- the bytes, at least one, are the beginning of an instruction's, and end before it does
pub record IsCutShort (rest : List ℕ) : Type 0 where
  pub begun : 1 ≤ length rest
  pub whole : Instr
  pub fits : Fits whole
  pub more : List ℕ
  pub missing : 1 ≤ length more
  pub spelled : bytes_of whole ≡ rest ++ more

-- the bytes begin with `invokeinterface`, and its last byte isn't 0
pub record HasNoZero (rest : List ℕ) : Type 0 where
  pub op : ℕ
  pub high : ℕ
  pub low : ℕ
  pub count : ℕ
  pub last : ℕ
  pub more : List ℕ
  pub parts : rest ≡ op ∷ high ∷ low ∷ count ∷ last ∷ more
  pub face : shape_of op ≡ Some Face
  pub wrong : last ≢ 0

-- the n-th of these instructions, which have offsets, jumps to a byte at which none of them begins
pub record IsAstray (raws : List Instr) (n : ℕ) : Type 0 where
  pub jump : Instr
  pub here : slice_get raws n ≡ Some jump
  pub jumping : IsTrue (jumps jump)
  pub nowhere : (k : ℕ) → k < length raws → (pos (offset raws n) +ℤ jump.a) ≢ pos (offset raws k)

-- the bytes are whole instructions, and the first that jumps astray begins at the byte `at`
pub record JumpsAstray (bytes : List ℕ) (at : ℕ) : Type 0 where
  pub raws : List Instr
  pub fits : AllByRecursion Fits raws
  pub parts : bytes ≡ flat_map bytes_of raws
  pub n : ℕ
  pub here : at ≡ offset raws n
  pub astray : IsAstray raws n
  pub first : (k : ℕ) → k < n → ¬ (IsAstray raws k)

-- this is wrong with the bytes that begin here
abbrev pub Stops : CodeKind → List ℕ → Type 0
Stops kinds.Opcode rest = IsUnknown rest
Stops kinds.Cut rest = IsCutShort rest
Stops kinds.Shape rest = HasNoZero rest
Stops kinds.Jump rest = ⊥
Stops kinds.Memory rest = ⊥

-- whole instructions stand before the byte `at`, and this is wrong from it on
abbrev pub StopsAt : List ℕ → ℕ → CodeKind → Type 0
StopsAt bytes at kind = (rest : List ℕ) × Begins bytes at rest × Stops kind rest

-- this is wrong with the bytes, with the instruction that begins at the byte `at`
abbrev pub FaultAt : List ℕ → ℕ → CodeKind → Type 0
FaultAt bytes at kinds.Opcode = StopsAt bytes at kinds.Opcode
FaultAt bytes at kinds.Cut = ((bytes ≡ []) × (at ≡ 0)) ⊎ StopsAt bytes at kinds.Cut
FaultAt bytes at kinds.Shape = StopsAt bytes at kinds.Shape
FaultAt bytes at kinds.Jump = JumpsAstray bytes at
FaultAt bytes at kinds.Memory = at ≡ 0

-- the fault is one of these bytes, or want of memory
abbrev pub IsFault : List ℕ → CodeFault → Type 0
IsFault bytes fault = FaultAt bytes fault.at fault.kind
