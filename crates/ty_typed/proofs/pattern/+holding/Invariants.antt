use Rattle.std.proofs.Common.{◌≡◌, drop}
use Rattle.std.specs.List.{list_all}
use Rattle.ty_typed.specs.Members.{types_of_fields}
use Rattle.ty_typed.specs.Types.{parts_hold}
use Rattle.ty_typed.specs.Looked.{looked_types, asks_of_each}
use Rattle.ty_typed.specs.Scopes.{within}
use Rattle.ty_typed.proofs.pattern.+holding.Given as goal

abbrev pub invariant-each_holds-loop-part : goal.invariant-each_holds-loop-part
invariant-each_holds-loop-part l =
    list_all (λ part. part.holds (within l.scope looked_types l.looked)) (within l.scope asks_of_each (drop l.part-index l.part-items))
    ≡ list_all (λ part. part.holds (within l.scope looked_types l.looked)) (within l.scope asks_of_each l.part-items)

abbrev pub invariant-parts_hold-loop-part : goal.invariant-parts_hold-loop-part
invariant-parts_hold-loop-part l =
    within l.scope parts_hold (within l.scope asks_of_each (drop l.part-index l.part-items)) (types_of_fields l.fields l.rest)
    ≡ within l.scope parts_hold (within l.scope asks_of_each l.part-items) (types_of_fields l.fields l.params)
