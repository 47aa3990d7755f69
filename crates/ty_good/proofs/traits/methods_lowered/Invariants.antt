use Rattle.std.proofs.Common.{◌≡◌, drop}
use Rattle.std.specs.List.{list_all}
use Rattle.ty_good.specs.Traits.{method_lowered}
use Rattle.ty_good.proofs.traits.methods_lowered.Given as goal

abbrev pub invariant-loop-method : goal.invariant-loop-method
invariant-loop-method l =
    list_all (method_lowered l.number l.methods) (drop l.method-index l.some) ≡ list_all (method_lowered l.number l.methods) l.some
