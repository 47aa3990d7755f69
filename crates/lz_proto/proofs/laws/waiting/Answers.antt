use Rattle.lz_proto.proofs.Waiters.{act_waits, barred_waits}
use Rattle.lz_proto.proofs.laws.waiting.Goals as goal

pub returns-clause-only : goal.returns-clause-only
returns-clause-only c = λ p kept who act waits. act_waits p kept.0 kept.1 kept.2 who act waits

pub returns-clause-all : goal.returns-clause-all
returns-clause-all c = barred_waits
