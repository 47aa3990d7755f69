use Rattle.ty_flow.specs.Settled.{ConstructorSettled}
use Rattle.ty_flow.proofs.Settings.{constructor_decides}
use Rattle.ty_flow.proofs.set_first.constructor_is_set_first.Goals as goal

pub returns : goal.returns
unfolding ConstructorSettled
returns c = constructor_decides c.args.class.now c.len.result c.are_set_first.result c.len.ensures c.are_set_first.ensures
