use Rattle.std.proofs.Common.{◌≡◌, take}
use Rattle.runs.specs.System.{reach}
use Rattle.runs.proofs.running.run.Given as goal

abbrev pub invariant-loop-turn : goal.invariant-loop-turn
invariant-loop-turn g l =
    (g.M.Standing.system l.machine ≡ g.M.Standing.system l.fn.machine)
    × (g.M.Standing.state l.machine ≡ (reach (g.M.Standing.system l.fn.machine) (take l.turn-index l.turns)).state)
