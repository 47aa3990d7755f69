use Rattle.ty_flow.specs.Settled.{ClassSettled}
use Rattle.ty_flow.proofs.locals_are_set_first.Goals as goal

pub returns : goal.returns
unfolding ClassSettled
returns c = c.classes_are_set_first.ensures
