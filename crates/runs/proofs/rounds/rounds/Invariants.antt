use Rattle.std.proofs.Common.{◌≡◌, ◌++◌, List}
use Rattle.runs.specs.declared.turn.Turn.{Turn}
use Rattle.runs.specs.Course.{OnCourse}
use Rattle.runs.specs.Planned.{Round}
use Rattle.runs.proofs.rounds.rounds.Given as goal

abbrev pub invariant-loop-left : goal.invariant-loop-left
invariant-loop-left g l =
    (g.M.Standing.system l.machine ≡ g.M.Standing.system l.fn.machine)
    × ((turns : List Turn) × (l.schedule ≡ l.fn.schedule ++ turns)
    × OnCourse (g.M.Standing.system l.fn.machine) l.budget (Round l.quantum 0) (g.M.Standing.state l.fn.machine) l.left (Round l.quantum l.last) turns (g.M.Standing.state l.machine))

abbrev pub decreases-loop-left : goal.decreases-loop-left
decreases-loop-left g l = l.left
