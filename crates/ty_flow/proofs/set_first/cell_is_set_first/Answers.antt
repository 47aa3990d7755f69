use Rattle.ty_flow.specs.Settled.{CellSettled}
use Rattle.ty_flow.proofs.set_first.cell_is_set_first.Goals as goal

pub returns : goal.returns
unfolding CellSettled
returns c = c.are_set_first.ensures
