use Rattle.runs.proofs.Quieting.{quietly_refine}
use Rattle.runs.proofs.laws.quiet_moves.Goals as goal

pub returns : goal.returns
returns g c = quietly_refine
