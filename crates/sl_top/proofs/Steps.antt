-- The machine goes over the code.
use Rattle.std.proofs.Common.{◌≡◌, ℕ, List, drop}
use Rattle.sl_top.specs.declared.code.Instruction.{Instruction}
use Rattle.sl_top.specs.declared.machine.Machine.{Machine}
use Rattle.sl_top.specs.Machine.{after_code, machine_at_start}

-- the machine behind the first i instructions
pub record Reaches (code : List Instruction) (i : ℕ) (m : Machine) : Type 0 where
  pub same_end : after_code (drop i code) m ≡ after_code code machine_at_start
  pub counted : m.steps ≡ i
