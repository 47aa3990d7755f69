use Rattle.cf_set.proofs.Reading.{indexed}
use Rattle.cf_set.proofs.laws.read_files.Goals as goal

pub returns : goal.returns
returns c = indexed
