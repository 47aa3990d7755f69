use Rattle.runs.proofs.Cycling.{law_of_cycles}
use Rattle.runs.proofs.run_laws.cycles.Goals as goal

pub returns : goal.returns
returns g c = law_of_cycles
