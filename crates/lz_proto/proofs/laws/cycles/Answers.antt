use Rattle.lz_proto.proofs.Own.{cycle_found, cycle_thrown}
use Rattle.lz_proto.proofs.laws.cycles.Goals as goal

pub returns-clause-only : goal.returns-clause-only
returns-clause-only c = λ p q kept who within act moved. cycle_found p q kept who within act moved

pub returns-clause-all : goal.returns-clause-all
returns-clause-all c = cycle_thrown
