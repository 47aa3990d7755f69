use Rattle.sl_num.proofs.Congruent.{wrapped64, only64}
use Rattle.sl_num.proofs.laws.wrapping_long.Goals as goal

pub returns : goal.returns
returns c = record { wrapped = wrapped64; only = only64 }
