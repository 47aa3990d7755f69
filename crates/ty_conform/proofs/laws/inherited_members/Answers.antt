use Rattle.ty_conform.proofs.Inherited.{found_below}
use Rattle.ty_conform.proofs.laws.inherited_members.Goals as goal

pub returns : goal.returns
returns c = found_below
