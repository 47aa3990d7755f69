use Rattle.std.proofs.Common.{◌≡◌, drop}
use Rattle.std.specs.List.{list_all}
use Rattle.ty_good.specs.Names.{method_named}
use Rattle.ty_good.proofs.names.methods_named.Given as goal

abbrev pub invariant-loop-method : goal.invariant-loop-method
invariant-loop-method l =
    list_all (method_named l.k) (drop l.method-index l.methods) ≡ list_all (method_named l.k) l.methods
