use Rattle.lz_proto.proofs.Refusing.{act_refused, is_refused}
use Rattle.lz_proto.proofs.laws.refusals.Goals as goal

pub returns-clause-only : goal.returns-clause-only
returns-clause-only c = λ p kept who act e. act_refused p kept.0 kept.1 who act e

pub returns-clause-all : goal.returns-clause-all
returns-clause-all c = is_refused
