use Rattle.sl_top.proofs.OneValue.{one_value}
use Rattle.sl_top.proofs.running.value_is_one.Goals as goal

pub returns : goal.returns
returns c = one_value
