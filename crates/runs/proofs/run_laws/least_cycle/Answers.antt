use Rattle.runs.proofs.LeastCycles.{least_once, least_or_none}
use Rattle.runs.proofs.run_laws.least_cycle.Goals as goal

pub returns : goal.returns
returns g c = record { determined = least_once; decided = least_or_none }
