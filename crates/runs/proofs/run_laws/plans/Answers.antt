use Rattle.runs.proofs.Determined.{planned_once, bad_turn_absent}
use Rattle.runs.proofs.Planning.{planned_within}
use Rattle.runs.proofs.Scheduling.{planned_always}
use Rattle.runs.proofs.run_laws.plans.Goals as goal

pub returns : goal.returns
returns g c = record { within = planned_within; determined = planned_once; scheduled = planned_always; bad_turn = bad_turn_absent }
