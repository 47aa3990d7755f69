use Rattle.ty_typed.proofs.Beginnings.{none_left}
use Rattle.ty_typed.proofs.bodies.begins.Goals as goal

pub returns-in-None : goal.returns-in-None
returns-in-None c = (
  λ h. absurd (cc),
  λ h. absurd (none_left c.args.given.now c.loop-ty.rest.now c.loop-ty.ty-index c.loop-ty-test.true c.in-None.ensures.cases (c.loop-ty.invariant.1 h)),
)
