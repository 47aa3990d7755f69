use Rattle.std.proofs.Common.{◌≡◌, ◌++◌, take}
use Rattle.sm_rule.specs.Moves.{arguments}
use Rattle.sm_decide.proofs.operands.arguments.Given as goal

abbrev pub invariant-loop-left : goal.invariant-loop-left
invariant-loop-left l = l.made ++ arguments l.last (take l.left l.operands) ≡ arguments l.last (take l.count l.operands)

abbrev pub decreases-loop-left : goal.decreases-loop-left
decreases-loop-left l = l.left
