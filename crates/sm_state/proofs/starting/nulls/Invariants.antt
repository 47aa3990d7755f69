use Rattle.std.proofs.Common.{◌≡◌, Some}
use Rattle.std.specs.Prelude.{replicate}
use Rattle.sm_state.specs.declared.value.Value.TheVariants as value
use Rattle.sm_state.proofs.starting.nulls.Given as goal

abbrev pub invariant-loop-n : goal.invariant-loop-n
invariant-loop-n l = l.made ≡ replicate l.n (Some value.Null)
