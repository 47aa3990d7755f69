use Rattle.std.proofs.Common.{◌≡◌, drop}
use Rattle.std.specs.List.{list_all}
use Rattle.ty_good.specs.Accessors.{keeps_accessors}
use Rattle.ty_good.proofs.accessors.keeps_all.Given as goal

abbrev pub invariant-loop-above : goal.invariant-loop-above
invariant-loop-above l =
    list_all (keeps_accessors l.p l.class) (drop l.above-index l.linear) ≡ list_all (keeps_accessors l.p l.class) l.linear
