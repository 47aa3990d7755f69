use Rattle.ty_complete.proofs.Finds.{AllBefore}
use Rattle.ty_complete.proofs.found.finds_all.Given as goal

abbrev pub invariant-loop-number : goal.invariant-loop-number
invariant-loop-number l = AllBefore l.p l.number
