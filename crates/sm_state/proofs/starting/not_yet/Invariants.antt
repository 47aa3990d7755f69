use Rattle.std.proofs.Common.{◌≡◌, map, take}
use Rattle.sm_state.specs.declared.module.Module.TheVariants as modules
use Rattle.sm_state.proofs.starting.not_yet.Given as goal

abbrev pub invariant-loop-class : goal.invariant-loop-class
invariant-loop-class l = l.made ≡ map (λ c. modules.NotYet) (take l.class-index l.classes)
