use Rattle.runs.proofs.Leasts.{Searched}
use Rattle.runs.proofs.least.search.Given as goal

abbrev pub invariant-loop-start : goal.invariant-loop-start
invariant-loop-start l = Searched l.table l.marks l.met l.start l.least
