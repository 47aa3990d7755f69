use Rattle.std.proofs.Common.{◌≡◌, drop}
use Rattle.std.specs.List.{list_all}
use Rattle.ty_good.specs.Accessors.{is_kept}
use Rattle.ty_good.proofs.accessors.keeps_each.Given as goal

abbrev pub invariant-loop-method : goal.invariant-loop-method
invariant-loop-method l =
    list_all (is_kept l.p l.class l.number l.above) (drop l.method-index l.methods)
    ≡ list_all (is_kept l.p l.class l.number l.above) l.methods
