use Rattle.ty_prog.proofs.Remaking.{one_tree}
use Rattle.ty_prog.proofs.laws.shaping.Goals as goal

pub returns : goal.returns
returns c = one_tree
