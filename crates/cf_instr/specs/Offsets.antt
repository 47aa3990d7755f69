-- Where the instructions of a code begin.
use Rattle.std.specs.Prelude.{◌≡◌, ℕ, ◌+◌, ◌<◌, ◌≤◌, List, length, slice_index}
use Rattle.cf_form.specs.declared.instr.Instr.{Instr}
use Rattle.cf_form.specs.Instructions.{offset}

-- where each instruction begins, and behind the last where the code ends
pub record AreOffsets (code : List Instr) (offsets : List ℕ) : Type 0 where
  pub many : length offsets ≡ length code + 1
  pub each : (k : ℕ) → k ≤ length code → slice_index offsets k ≡ offset code k

-- none of these numbers is below an earlier one
abbrev pub IsNotFalling : List ℕ → Type 0
IsNotFalling xs = (i j : ℕ) → i ≤ j → j < length xs → slice_index xs i ≤ slice_index xs j
