use Rattle.std.proofs.Common.{◌≡◌, drop}
use Rattle.ty_typed.specs.Stands.{all_fit}
use Rattle.ty_typed.specs.Scopes.{within, classes_of}
use Rattle.ty_typed.specs.Members.{types_of_fields}
use Rattle.ty_typed.specs.Parts.{types_of_each}
use Rattle.ty_typed.proofs.arguments.fields_take.Given as goal

abbrev pub invariant-loop-e : goal.invariant-loop-e
invariant-loop-e l =
    all_fit (classes_of l.scope) (within l.scope types_of_each (drop l.e-index l.e-items)) (types_of_fields l.fields l.rest)
    ≡ all_fit (classes_of l.scope) (within l.scope types_of_each l.e-items) (types_of_fields l.fields l.params)
