use Rattle.std.proofs.Common.{◌≡◌, map, drop}
use Rattle.ty_typed.specs.Kinds.{kinds_fit, all_kinds_fit, both}
use Rattle.ty_typed.specs.Types.{all_of}
use Rattle.ty_typed.specs.Scopes.{within, classes_of}
use Rattle.ty_typed.specs.Parts.{types_of_each, types_of_case}
use Rattle.ty_typed.proofs.kinds.+kinds.Given as goal

abbrev pub invariant-case_kinds-loop-c : goal.invariant-case_kinds-loop-c
invariant-case_kinds-loop-c l =
    kinds_fit (classes_of l.scope) (all_of (map (within l.scope types_of_case) l.c-items))
    ≡ both l.fit (kinds_fit (classes_of l.scope) (all_of (map (within l.scope types_of_case) (drop l.c-index l.c-items))))

abbrev pub invariant-all_kinds_fit-loop-e : goal.invariant-all_kinds_fit-loop-e
invariant-all_kinds_fit-loop-e l =
    all_kinds_fit (classes_of l.scope) (within l.scope types_of_each l.e-items)
    ≡ both l.fit (all_kinds_fit (classes_of l.scope) (within l.scope types_of_each (drop l.e-index l.e-items)))
