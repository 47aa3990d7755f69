use Rattle.std.proofs.Common.{◌≡◌, take}
use Rattle.ty_walk.proofs.equal_trees.+same.Given as goal

abbrev pub invariant-same_exprs-loop-i : goal.invariant-same_exprs-loop-i
invariant-same_exprs-loop-i l = take l.i l.e-items ≡ take l.i l.others

abbrev pub invariant-all_cases-loop-i : goal.invariant-all_cases-loop-i
invariant-all_cases-loop-i l = take l.i l.case-items ≡ take l.i l.others

abbrev pub invariant-patterns-loop-i : goal.invariant-patterns-loop-i
invariant-patterns-loop-i l = take l.i l.p-items ≡ take l.i l.others
