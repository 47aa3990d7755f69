use Rattle.sl_num.proofs.Congruent.{wrapped32, only32}
use Rattle.sl_num.proofs.laws.wrapping.Goals as goal

pub returns : goal.returns
returns c = record { wrapped = wrapped32; only = only32 }
