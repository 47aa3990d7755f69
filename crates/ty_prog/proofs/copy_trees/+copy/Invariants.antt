use Rattle.std.proofs.Common.{◌≡◌, take}
use Rattle.ty_prog.proofs.copy_trees.+copy.Given as goal

abbrev pub invariant-exprs-loop-e : goal.invariant-exprs-loop-e
invariant-exprs-loop-e l = l.made ≡ take l.e-index l.e-items

abbrev pub invariant-all_cases-loop-c : goal.invariant-all_cases-loop-c
invariant-all_cases-loop-c l = l.made ≡ take l.c-index l.c-items

abbrev pub invariant-patterns-loop-p : goal.invariant-patterns-loop-p
invariant-patterns-loop-p l = l.made ≡ take l.p-index l.p-items
