use Rattle.std.proofs.Common.{◌≡◌, take}
use Rattle.ty_prog.proofs.copying.exprs.Given as goal

abbrev pub invariant-loop-e : goal.invariant-loop-e
invariant-loop-e l = l.made ≡ take l.e-index l.e-items
