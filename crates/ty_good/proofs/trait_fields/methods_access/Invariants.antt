use Rattle.std.proofs.Common.{◌≡◌, drop}
use Rattle.std.specs.List.{list_all}
use Rattle.ty_good.specs.TraitFields.{method_accesses}
use Rattle.ty_good.proofs.trait_fields.methods_access.Given as goal

abbrev pub invariant-loop-method : goal.invariant-loop-method
invariant-loop-method l =
    list_all (method_accesses l.classes l.number l.fields) (drop l.method-index l.methods) ≡ list_all (method_accesses l.classes l.number l.fields) l.methods
