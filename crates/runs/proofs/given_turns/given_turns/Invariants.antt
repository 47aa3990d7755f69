use Rattle.std.proofs.Common.{◌≡◌, ◌++◌, List, drop}
use Rattle.runs.specs.declared.turn.Turn.{Turn}
use Rattle.runs.specs.Course.{OnCourse}
use Rattle.runs.specs.Planned.{given_from}
use Rattle.runs.proofs.given_turns.given_turns.Given as goal

abbrev pub invariant-loop-index : goal.invariant-loop-index
invariant-loop-index g l =
    (g.M.Standing.system l.machine ≡ g.M.Standing.system l.fn.machine)
    × ((done : List Turn) × (l.schedule ≡ l.fn.schedule ++ done)
    × OnCourse (g.M.Standing.system l.fn.machine) l.budget (given_from 0 l.turns) (g.M.Standing.state l.fn.machine) l.left (given_from l.index (drop l.index l.turns)) done (g.M.Standing.state l.machine))
