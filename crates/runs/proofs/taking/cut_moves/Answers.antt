use Rattle.runs.proofs.Coursing.{made_cut}
use Rattle.runs.proofs.taking.cut_moves.Goals as goal

pub returns-clause-cut : goal.returns-clause-cut
returns-clause-cut g c = made_cut _ _ _ _ _ _ _ c.min.ensures c.in_ok-made.ensures.made
