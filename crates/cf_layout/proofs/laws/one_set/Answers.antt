use Rattle.cf_layout.proofs.OneSet.{one_set}
use Rattle.cf_layout.proofs.laws.one_set.Goals as goal

pub returns : goal.returns
returns c = one_set
