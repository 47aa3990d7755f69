use Rattle.sl_top.proofs.Words.{asks_or_not, asks_once}
use Rattle.sl_top.proofs.request.asking.Goals as goal

pub returns : goal.returns
returns c = record { either = asks_or_not; one = asks_once }
