use Rattle.sl_text.proofs.Spelling.{std_ill_formed}
use Rattle.sl_text.proofs.decode.validated.Goals as goal

pub returns-in-Err-clause-fault : goal.returns-in-Err-clause-fault
returns-in-Err-clause-fault c = rw c.valid_up_to.ensures (std_ill_formed _ _ c.in-Err.ensures.cases.1)
