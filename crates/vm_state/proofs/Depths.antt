-- No value takes fewer units than one.
use Rattle.std.proofs.Common.{◌≤◌, List, [], ◌∷◌, length, arith}
use Rattle.vm_state.specs.declared.value.Value.{Value}
use Rattle.vm_state.specs.declared.value.Value.TheVariants.{Long}
use Rattle.vm_state.specs.Values.{width, depth}

pub width_some : (v : Value) → 1 ≤ width v
width_some (Long n) = omega arith
width_some _ = omega arith

pub length_depth : (vs : List Value) → length vs ≤ depth vs
length_depth [] = omega arith
length_depth (v ∷ vs) = omega (arith, length_depth vs, width_some v)
