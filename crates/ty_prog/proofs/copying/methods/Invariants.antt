use Rattle.std.proofs.Common.{◌≡◌, take}
use Rattle.ty_prog.proofs.copying.methods.Given as goal

abbrev pub invariant-loop-method : goal.invariant-loop-method
invariant-loop-method l = l.made ≡ take l.method-index l.method-items
