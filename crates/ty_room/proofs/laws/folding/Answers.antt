use Rattle.ty_room.proofs.Whole.{exprs_fit, cases_fit}
use Rattle.ty_room.proofs.laws.folding.Goals as goal

pub returns-clause-exprs : goal.returns-clause-exprs
returns-clause-exprs c = exprs_fit

pub returns-clause-cases : goal.returns-clause-cases
returns-clause-cases c = cases_fit
