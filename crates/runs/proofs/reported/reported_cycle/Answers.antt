use Rattle.runs.proofs.Reporting.{reported, no_cycle}
use Rattle.runs.proofs.reported.reported_cycle.Goals as goal

pub returns-in_ok-threads_of-in-Some : goal.returns-in_ok-threads_of-in-Some
returns-in_ok-threads_of-in-Some c =
    let found = rw c.in-Some.is at c.in_ok-circuit.ensures in
    reported _ _ _ found.1 c.in_ok-threads_of-in-Some.ensures

pub returns-in-None : goal.returns-in-None
returns-in-None c = no_cycle _ (rw c.in-None.is at c.in_ok-circuit.ensures)
