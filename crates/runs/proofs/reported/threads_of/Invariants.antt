use Rattle.std.proofs.Common.{◌≡◌, ℕ, List, ◌∷◌}
use Rattle.runs.proofs.Reporting.{OnCycle}
use Rattle.runs.proofs.reported.threads_of.Given as goal

abbrev pub invariant-loop-step : goal.invariant-loop-step
invariant-loop-step l =
    (ts : List ℕ) × (l.threads ≡ l.circuit.thread ∷ ts) × OnCycle l.table l.circuit.thread l.circuit.length l._step l.thread ts
