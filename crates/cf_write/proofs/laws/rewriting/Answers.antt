use Rattle.cf_write.proofs.Dropped.{rewritten}
use Rattle.cf_write.proofs.laws.rewriting.Goals as goal

pub returns : goal.returns
returns c = λ file bytes reads. rewritten file bytes reads
