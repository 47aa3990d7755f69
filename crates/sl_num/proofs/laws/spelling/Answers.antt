use Rattle.sl_num.proofs.Spelled.{some, only}
use Rattle.sl_num.proofs.laws.spelling.Goals as goal

pub returns : goal.returns
returns c = record { some = some; only = only }
