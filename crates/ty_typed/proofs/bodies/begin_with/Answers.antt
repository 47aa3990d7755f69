use Rattle.ty_typed.proofs.Beginnings.{begins_take}
use Rattle.ty_typed.proofs.bodies.begin_with.Goals as goal

pub returns : goal.returns
returns c =
    let same = begins_take c.args.given.now c.args.locals.now in
    (λ h. same.0 (c.begins.ensures.0 h), λ h. c.begins.ensures.1 (same.1 h))
