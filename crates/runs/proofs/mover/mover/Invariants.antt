use Rattle.std.proofs.Common.{ℕ, ◌+◌, ◌<◌, ◌≤◌}
use Rattle.runs.specs.Planned.{Moves}
use Rattle.runs.proofs.mover.mover.Given as goal

abbrev pub invariant-loop-before : goal.invariant-loop-before
invariant-loop-before g l =
    (t : ℕ) → 1 ≤ t → t < l.before + 1 → Moves ((g.M.Standing.system l.machine).next (g.M.Standing.state l.machine) t) → ⊥
