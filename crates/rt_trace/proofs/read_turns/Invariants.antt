use Rattle.std.proofs.Common.{◌≡◌, ◌++◌, length}
use Rattle.std.specs.List.{AllByRecursion}
use Rattle.rt_trace.specs.Turns.{turns_text, IsTurn}
use Rattle.rt_trace.proofs.read_turns.Given as goal

abbrev pub invariant-loop-rest : goal.invariant-loop-rest
invariant-loop-rest l =
    (l.bytes ≡ turns_text l.turns.items ++ l.rest) × AllByRecursion IsTurn l.turns.items

abbrev pub decreases-loop-rest : goal.decreases-loop-rest
decreases-loop-rest l = length l.rest
