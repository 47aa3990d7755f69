use Rattle.std.proofs.Common.{◌≡◌, ◌++◌}
use Rattle.std.specs.Prelude.{replicate}
use Rattle.vm_state.specs.declared.value.Value.TheVariants.{Null}
use Rattle.vm_state.proofs.entering.pad.Given as goal

abbrev pub invariant-loop-n : goal.invariant-loop-n
invariant-loop-n l = l.locals ≡ l.initial.locals ++ replicate l.n Null
