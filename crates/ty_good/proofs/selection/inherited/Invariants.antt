use Rattle.std.proofs.Common.{◌≡◌, drop}
use Rattle.ty_good.specs.Selection.{inherited}
use Rattle.ty_good.proofs.selection.inherited.Given as goal

abbrev pub invariant-loop-class : goal.invariant-loop-class
invariant-loop-class l =
    inherited l.classes l.wanted (drop l.class-index l.linear) ≡ inherited l.classes l.wanted l.linear
