use Rattle.runs.proofs.Refining.{refines_implements}
use Rattle.runs.proofs.laws.implementation.Goals as goal

pub returns : goal.returns
returns g c = refines_implements
