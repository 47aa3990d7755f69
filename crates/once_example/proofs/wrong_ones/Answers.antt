use Rattle.once_example.proofs.Refuted.{wrong_ones}
use Rattle.once_example.proofs.Spinning.{no_pace}
use Rattle.once_example.proofs.wrong_ones.Goals as goal

pub returns : goal.returns
returns c = record { spinning = no_pace; unexchanged = λ b. (wrong_ones b).0; stuck_mark = λ b. (wrong_ones b).1 }
