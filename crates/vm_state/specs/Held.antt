-- What a clause sees of an operand stack (JVMS 2.6.2).
use Rattle.std.specs.Prelude.{ℕ, List}
use Rattle.vm_state.specs.declared.value.Value.{Value}

-- the operands from the top on, and the units of depth that there are for them
pub record Held : Type 0 where
  pub values : List Value
  pub room : ℕ
