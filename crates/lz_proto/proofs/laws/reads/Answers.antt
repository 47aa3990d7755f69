use Rattle.lz_proto.proofs.Pace.{read_paced, read_value}
use Rattle.lz_proto.proofs.laws.reads.Goals as goal

pub returns-clause-pace : goal.returns-clause-pace
returns-clause-pace c = read_paced

pub returns-clause-value : goal.returns-clause-value
returns-clause-value c = read_value
