use Rattle.std.proofs.Common.{◌≡◌}
use Rattle.vm_state.specs.Natives.{code_units}
use Rattle.vm_native.proofs.strings.code_units_of.Given as goal

abbrev pub invariant-loop-character : goal.invariant-loop-character
invariant-loop-character l = l.count ≡ code_units l.yielded
