use Rattle.rt_trace.proofs.Texts.{one_list, not_both}
use Rattle.rt_trace.proofs.laws.turns.Goals as goal

pub returns-clause-one : goal.returns-clause-one
returns-clause-one c = one_list

pub returns-clause-right : goal.returns-clause-right
returns-clause-right c = not_both
