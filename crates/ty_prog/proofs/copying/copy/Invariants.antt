use Rattle.std.proofs.Common.{◌≡◌, take}
use Rattle.ty_prog.proofs.copying.copy.Given as goal

abbrev pub invariant-loop-class : goal.invariant-loop-class
invariant-loop-class l = l.classes ≡ take l.class-index l.class-items
