use Rattle.std.proofs.Common.{◌<◌}
use Rattle.runs.proofs.Circling.{Passed}
use Rattle.runs.proofs.circle.next_after.Given as goal

abbrev pub invariant-loop-passed : goal.invariant-loop-passed
invariant-loop-passed g l =
    (l.before < l.threads) × Passed (g.M.Standing.system l.machine) (g.M.Standing.state l.machine) l.threads l.last l._passed l.before
