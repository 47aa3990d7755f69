use Rattle.std.proofs.Common.{refl}
use Rattle.ty_flow.specs.Settled.{MethodSettled}
use Rattle.ty_flow.proofs.Settings.{body_decides, no_body_decides}
use Rattle.ty_flow.proofs.set_first.method_is_set_first.Goals as goal

pub returns-in-Some : goal.returns-in-Some
unfolding MethodSettled
returns-in-Some c = body_decides c.args.method.now c.in-Some.body c.len.result c.are_set_first.result c.in-Some.is c.len.ensures c.are_set_first.ensures

pub returns-in-None : goal.returns-in-None
unfolding MethodSettled
returns-in-None c = (λ _. no_body_decides c.args.method.now c.in-None.is, λ _. refl)
