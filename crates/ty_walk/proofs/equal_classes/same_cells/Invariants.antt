use Rattle.std.proofs.Common.{◌≡◌, take}
use Rattle.ty_walk.proofs.equal_classes.same_cells.Given as goal

abbrev pub invariant-loop-i : goal.invariant-loop-i
invariant-loop-i l = take l.i l.one ≡ take l.i l.other
