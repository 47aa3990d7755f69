use Rattle.lz_proto.proofs.Own.{step_keeps}
use Rattle.lz_proto.proofs.Rules.{act_follows}
use Rattle.lz_proto.proofs.laws.steps.Goals as goal

pub returns-clause-kept : goal.returns-clause-kept
returns-clause-kept c = λ p q kept who within act moves. step_keeps p q kept who within act moves

pub returns-clause-rules : goal.returns-clause-rules
returns-clause-rules c = λ p q kept who within act moves. act_follows p kept.0 kept.1 who within act q moves
