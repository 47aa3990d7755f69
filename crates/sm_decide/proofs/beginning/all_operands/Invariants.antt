use Rattle.std.proofs.Common.{◌≡◌, ◌++◌, take, map, reverse, Some}
use Rattle.sm_decide.proofs.beginning.all_operands.Given as goal

abbrev pub invariant-loop-left : goal.invariant-loop-left
invariant-loop-left l = l.made ++ map Some (reverse (take l.left l.operands)) ≡ map Some (reverse l.operands)

abbrev pub decreases-loop-left : goal.decreases-loop-left
decreases-loop-left l = l.left
