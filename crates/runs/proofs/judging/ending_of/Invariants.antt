use Rattle.runs.proofs.Walking.{Walked}
use Rattle.runs.proofs.judging.ending_of.Given as goal

abbrev pub invariant-loop-before : goal.invariant-loop-before
invariant-loop-before g l = Walked (g.M.Standing.system l.machine) (g.M.Standing.state l.machine) l.before l.moves l.waits
