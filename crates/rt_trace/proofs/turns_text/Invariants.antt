use Rattle.std.proofs.Common.{◌≡◌, ◌++◌, drop}
use Rattle.rt_trace.specs.Turns.{turns_text}
use Rattle.rt_trace.proofs.turns_text.Given as goal

abbrev pub invariant-loop-turn : goal.invariant-loop-turn
invariant-loop-turn l = l.text.items ++ turns_text (drop l.turn-index l.turns) ≡ turns_text l.turns
