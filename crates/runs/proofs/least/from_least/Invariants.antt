use Rattle.runs.proofs.Leasts.{Along}
use Rattle.runs.proofs.least.from_least.Given as goal

abbrev pub invariant-loop-step : goal.invariant-loop-step
invariant-loop-step l = Along l.table l.circuit.thread l.circuit.length l._step l.thread l.least
