use Rattle.cf_read.proofs.OneFault.{one_file}
use Rattle.cf_read.proofs.laws.reading.Goals as goal

pub returns : goal.returns
returns c = one_file
