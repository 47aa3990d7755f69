use Rattle.runs.proofs.Telling.{none_is_none, reported_is_least}
use Rattle.runs.proofs.run_laws.told_cycles.Goals as goal

pub returns : goal.returns
returns g c = record { least = reported_is_least; none = none_is_none }
