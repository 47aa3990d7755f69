use Rattle.std.proofs.Common.{◌≡◌, drop}
use Rattle.ty_good.specs.Selection.{params_alike}
use Rattle.ty_good.proofs.selection.params_alike.Given as goal

abbrev pub invariant-loop-one : goal.invariant-loop-one
invariant-loop-one l =
    params_alike (drop l.one-index l.ones) l.rest ≡ params_alike l.ones l.others
