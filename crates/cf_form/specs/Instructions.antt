-- Instructions as bytes (JVMS 4.7.3, 6.5): what each takes, and the one spelling of a method's code.
use Rattle.std.specs.Prelude.{◌≡◌, ℕ, ◌+◌, ◌≤◌, ℤ, pos, negsuc, ◌≤ℤ◌, ◌<ℤ◌, ◌-ℤ◌, FitsSigned, List, [], ◌∷◌, ◌++◌, length, take, Option, None, Some, Bool, true, false, if◌then◌else◌, IsTrue}
use Rattle.std.specs.List.{flat_map, sum_by, AllByRecursion}
use Rattle.std.specs.Int.{w8, w16, w32, to_be_bytes, cast_unsigned}
use Rattle.cf_form.specs.Opcodes.{shape_of}
use Rattle.cf_form.specs.declared.instr.Instr.{Instr}
use Rattle.cf_form.specs.declared.shape.Shape.{Shape}
use Rattle.cf_form.specs.declared.shape.Shape.TheVariants.{Plain, Signed1, Signed2, Pool1, Pool2, Local, Step, Jump2, Jump4, Face, Wide}

-- a number in one byte; below 0 in two's complement
abbrev pub one : ℤ → List ℕ
one x = to_be_bytes w8 (cast_unsigned w8 x)

-- a number in two bytes, the high one first
abbrev pub two : ℤ → List ℕ
two x = to_be_bytes w16 (cast_unsigned w16 x)

-- a number in four bytes, the high one first
abbrev pub four : ℤ → List ℕ
four x = to_be_bytes w32 (cast_unsigned w32 x)

-- the operands a and b of a shape, plain and after `wide`
abbrev pub operands : Shape → Bool → ℤ → ℤ → List ℕ
operands Plain wide a b = []
operands Signed1 wide a b = one a
operands Signed2 wide a b = two a
operands Pool1 wide a b = one a
operands Pool2 wide a b = two a
operands Local false a b = one a
operands Local true a b = two a
operands Step false a b = one a ++ one b
operands Step true a b = two a ++ two b
operands Jump2 wide a b = two a
operands Jump4 wide a b = four a
operands Face wide a b = two a ++ one b ++ 0 ∷ []
operands Wide wide a b = []

-- the opcode `wide`
abbrev pub wide_opcode : ℕ
wide_opcode = 196

-- an instruction of this shape; where it jumps, `a` is the offset, in bytes, from its own first byte
abbrev pub bytes_by : Option Shape → Instr → List ℕ
bytes_by None i = []
bytes_by (Some shape) i =
    (if i.wide then wide_opcode ∷ [] else []) ++ i.op ∷ operands shape i.wide i.a i.b

-- the bytes of an instruction; where it jumps, `a` is the offset
unfoldable pub bytes_of : Instr → List ℕ
bytes_of i = bytes_by (shape_of i.op) i

-- a number of one byte, without sign
abbrev pub Is1 : ℤ → Type 0
Is1 x = (pos 0 ≤ℤ x) × (x <ℤ pos 256)

-- a number of two bytes, without sign
abbrev pub Is2 : ℤ → Type 0
Is2 x = (pos 0 ≤ℤ x) × (x <ℤ pos 65536)

-- what a and b may be; an operand that the shape doesn't have is 0, and only loads, stores and `iinc` stand after `wide`
abbrev pub OperandsFit : Shape → Bool → ℤ → ℤ → Type 0
OperandsFit Plain wide a b = (wide ≡ false) × (a ≡ pos 0) × (b ≡ pos 0)
OperandsFit Signed1 wide a b = (wide ≡ false) × FitsSigned w8 a × (b ≡ pos 0)
OperandsFit Signed2 wide a b = (wide ≡ false) × FitsSigned w16 a × (b ≡ pos 0)
OperandsFit Pool1 wide a b = (wide ≡ false) × Is1 a × (b ≡ pos 0)
OperandsFit Pool2 wide a b = (wide ≡ false) × Is2 a × (b ≡ pos 0)
OperandsFit Local false a b = Is1 a × (b ≡ pos 0)
OperandsFit Local true a b = Is2 a × (b ≡ pos 0)
OperandsFit Step false a b = Is1 a × FitsSigned w8 b
OperandsFit Step true a b = Is2 a × FitsSigned w16 b
OperandsFit Jump2 wide a b = (wide ≡ false) × FitsSigned w16 a × (b ≡ pos 0)
OperandsFit Jump4 wide a b = (wide ≡ false) × FitsSigned w32 a × (b ≡ pos 0)
OperandsFit Face wide a b = (wide ≡ false) × Is2 a × Is1 b
OperandsFit Wide wide a b = ⊥

-- the operands of an instruction of this shape fit it
abbrev pub FitsBy : Option Shape → Instr → Type 0
FitsBy None i = ⊥
FitsBy (Some shape) i = OperandsFit shape i.wide i.a i.b

-- the instruction has a spelling; where it jumps, `a` is the offset
unfoldable pub Fits : Instr → Type 0
Fits i = FitsBy (shape_of i.op) i

-- how many bytes an instruction takes
abbrev pub size : Instr → ℕ
size i = length (bytes_of i)

-- where the n-th instruction of a code begins, in bytes from 0; after the last, the length in bytes
unfoldable pub offset : List Instr → ℕ → ℕ
offset code n = sum_by size (take n code)

-- what follows is an offset to the target of a jump
abbrev pub jumps_by : Option Shape → Bool
jumps_by (Some Jump2) = true
jumps_by (Some Jump4) = true
jumps_by _ = false

-- the instruction jumps
unfoldable pub jumps : Instr → Bool
jumps i = jumps_by (shape_of i.op)

-- the natural number that x is; 0 for one below 0
abbrev pub number : ℤ → ℕ
number (pos n) = n
number (negsuc n) = 0

-- the instruction that begins at the byte `at`, its jump with the offset in place of the target's number
abbrev pub with_offset : List Instr → ℕ → Instr → Instr
with_offset code at i =
    if jumps i then record { op = i.op; wide = i.wide; a = pos (offset code (number i.a)) -ℤ pos at; b = i.b } else i

-- these instructions of a code, of which the first begins at the byte `at`, with offsets
abbrev pub with_offsets : List Instr → ℕ → List Instr → List Instr
with_offsets code at [] = []
with_offsets code at (i ∷ is) = with_offset code at i ∷ with_offsets code (at + size i) is

-- a jump leads to one of n instructions
abbrev pub LeadsInto : ℕ → Instr → Type 0
LeadsInto n i = IsTrue (jumps i) → (pos 0 ≤ℤ i.a) × (i.a <ℤ pos n)

-- one or more instructions, each with a spelling, whose jumps lead to instructions among them
pub record IsCode (code : List Instr) : Type 0 where
  pub some : 1 ≤ length code
  pub fits : AllByRecursion Fits (with_offsets code 0 code)
  pub targets : AllByRecursion (LeadsInto (length code)) code

-- the bytes of a code
unfoldable pub code_bytes : List Instr → List ℕ
code_bytes code = flat_map bytes_of (with_offsets code 0 code)
