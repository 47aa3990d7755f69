use Rattle.cf_layout.proofs.OneList.{one_list}
use Rattle.cf_layout.proofs.laws.one_list.Goals as goal

pub returns : goal.returns
returns c = one_list
