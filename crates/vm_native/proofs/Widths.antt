-- Each value takes a unit.
use Rattle.std.proofs.Common.{◌≤◌, arith}
use Rattle.vm_state.specs.Values.{width}
use Rattle.vm_state.specs.declared.value.Value.{Value}
use Rattle.vm_state.specs.declared.value.Value.TheVariants as value

pub width_some : (v : Value) → 1 ≤ width v
width_some (value.Int n) = omega arith
width_some (value.Long n) = omega arith
width_some value.Null = omega arith
width_some (value.Ref at class) = omega arith
width_some (value.Text at) = omega arith
width_some (value.BoxInt n) = omega arith
width_some (value.BoxLong n) = omega arith
width_some (value.BoxBool b) = omega arith
width_some value.BoxUnit = omega arith
width_some (value.Latch at owner) = omega arith
width_some (value.Evaluating thread) = omega arith
width_some value.NullValue = omega arith
