use Rattle.std.proofs.Common.{◌≡◌, map, drop}
use Rattle.ty_typed.specs.Types.{all_of}
use Rattle.ty_typed.specs.Scopes.{within, classes_of}
use Rattle.ty_typed.specs.Parts.{all_suit, types_of_case}
use Rattle.ty_typed.proofs.expressions.+fitting.Given as goal

abbrev pub invariant-cases_suit-loop-c : goal.invariant-cases_suit-loop-c
invariant-cases_suit-loop-c l =
    all_suit (classes_of l.scope) l.wanted (all_of (map (within l.scope types_of_case) (drop l.c-index l.c-items)))
    ≡ all_suit (classes_of l.scope) l.wanted (all_of (map (within l.scope types_of_case) l.c-items))
