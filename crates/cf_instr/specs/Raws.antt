-- Instructions with offsets, where they begin, and how their targets are settled.
use Rattle.std.specs.Prelude.{◌≡◌, ◌≢◌, ℕ, ◌+◌, ◌<◌, ◌≤◌, ℤ, pos, ◌+ℤ◌, ◌-ℤ◌, ◌≤ℤ◌, ◌<ℤ◌, if◌then◌else◌, Bool, true, false, List, ◌++◌, length, take, slice_index}
use Rattle.std.specs.List.{flat_map, AllByRecursion}
use Rattle.cf_form.specs.declared.instr.Instr.{Instr}
use Rattle.cf_form.specs.Opcodes.{shape_of}
use Rattle.cf_form.specs.Instructions.{bytes_of, Fits, offset, jumps, jumps_by, number, with_offsets, LeadsInto}
use Rattle.cf_instr.specs.Faults.{IsAstray}

-- the first bytes of these instructions, in their order
pub record AreStarts (raws : List Instr) (starts : List ℕ) : Type 0 where
  pub many : length starts ≡ length raws
  pub each : (k : ℕ) → k < length raws → slice_index starts k ≡ offset raws k

-- the bytes are these instructions, which begin there, and these bytes behind them
pub record AreRaws (bytes : List ℕ) (raws : List Instr) (starts rest : List ℕ) : Type 0 where
  pub fits : AllByRecursion Fits raws
  pub parts : bytes ≡ flat_map bytes_of raws ++ rest
  pub begin : AreStarts raws starts

-- of two of these numbers the later is the greater
abbrev pub AreApart : List ℕ → Type 0
AreApart xs = (i j : ℕ) → i < j → j < length xs → slice_index xs i < slice_index xs j

-- the table has the numbers of the first n instructions at their first bytes, and at other bytes no instruction's number
pub record AreNumbers (starts : List ℕ) (n : ℕ) (numbers : List ℕ) : Type 0 where
  pub here : (k : ℕ) → k < n → slice_index numbers (slice_index starts k) ≡ k
  pub only : (at : ℕ) → at < length numbers → slice_index numbers at < length starts
      → (slice_index numbers at < n) × (slice_index starts (slice_index numbers at) ≡ at)

-- none of these begins where an offset from the byte `at` leads
abbrev pub LeadsNowhere : List ℕ → ℕ → ℤ → Type 0
LeadsNowhere starts at branch = (k : ℕ) → k < length starts → (pos at +ℤ branch) ≢ pos (slice_index starts k)

-- the m-th of these begins where an offset from the byte `at` leads
abbrev pub LeadsTo : List ℕ → ℕ → ℤ → ℕ → Type 0
LeadsTo starts at branch m = (m < length starts) × (pos at +ℤ branch ≡ pos (slice_index starts m))

-- the instruction of the byte `at`, its jump with the number of its target; the flag tells whether it jumps
abbrev pub SettlesBy : Bool → List ℕ → ℕ → Instr → Instr → Type 0
SettlesBy true starts at raw i = (m : ℕ) × LeadsTo starts at raw.a m × (i ≡ record { op = raw.op; wide = raw.wide; a = pos m; b = raw.b })
SettlesBy false starts at raw i = i ≡ raw

-- the instruction of the byte `at`, its jump with the number of its target
abbrev pub Settles : List ℕ → ℕ → Instr → Instr → Type 0
Settles starts at raw i = SettlesBy (jumps raw) starts at raw i

-- the first n of these instructions, jumps with the numbers of their targets; none of them goes astray
pub record AreSettled (raws : List Instr) (n : ℕ) (code : List Instr) : Type 0 where
  pub offsets : with_offsets raws 0 code ≡ take n raws
  pub targets : AllByRecursion (LeadsInto (length raws)) code
  pub led : (k : ℕ) → k < n → ¬ (IsAstray raws k)

-- the first of the instructions that goes astray
pub record IsFirstAstray (raws : List Instr) (at : ℕ) : Type 0 where
  pub n : ℕ
  pub here : at ≡ offset raws n
  pub astray : IsAstray raws n
  pub first : (k : ℕ) → k < n → ¬ (IsAstray raws k)

-- the first n of these instructions begin there, and the next at the byte `at`
pub record AreOffsetsTo (code : List Instr) (n at : ℕ) (offsets : List ℕ) : Type 0 where
  pub next : at ≡ offset code n
  pub many : length offsets ≡ n + 1
  pub each : (k : ℕ) → k ≤ n → slice_index offsets k ≡ offset code k

-- an instruction of the byte `at`, its jump with the offset in place of the target's number, by the offsets of a code's instructions
abbrev pub offset_from : List ℕ → ℕ → Instr → Instr
offset_from offsets at i =
    if jumps_by (shape_of i.op) then record { op = i.op; wide = i.wide; a = pos (slice_index offsets (number i.a)) -ℤ pos at; b = i.b } else i

-- a jump has the number of one of n instructions
abbrev pub HasTarget : ℕ → Instr → Type 0
HasTarget n i = jumps_by (shape_of i.op) ≡ true → (pos 0 ≤ℤ i.a) × (i.a <ℤ pos n)

-- no number is above what the length of a code may be (JVMS 4.7.3)
abbrev pub AreLow : List ℕ → Type 0
AreLow xs = (k : ℕ) → k < length xs → slice_index xs k ≤ 65535
