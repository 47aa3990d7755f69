use Rattle.runs.specs.Walks.{zeros}
use Rattle.runs.proofs.Walkways.{OnWalk}
use Rattle.runs.proofs.walk.meet.Given as goal

abbrev pub invariant-steps : goal.invariant-steps
invariant-steps l = OnWalk l.table l.fn.marks l.before l.start l.marks l.met l.thread

abbrev pub decreases-steps : goal.decreases-steps
decreases-steps l = zeros l.marks
