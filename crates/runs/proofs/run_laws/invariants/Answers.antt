use Rattle.runs.proofs.Keeping.{each_reached}
use Rattle.runs.proofs.run_laws.invariants.Goals as goal

pub returns : goal.returns
returns g c = each_reached
