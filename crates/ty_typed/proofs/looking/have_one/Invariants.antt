use Rattle.std.proofs.Common.{◌≡◌, drop, [], ◌∷◌}
use Rattle.std.specs.Prelude.{is_some}
use Rattle.ty_typed.specs.Stands.{common}
use Rattle.ty_typed.specs.Types.{types_of}
use Rattle.ty_typed.specs.Looked.{looked_types}
use Rattle.ty_typed.specs.Scopes.{within, classes_of}
use Rattle.ty_typed.proofs.looking.have_one.Given as goal

abbrev pub invariant-loop-choice : goal.invariant-loop-choice
invariant-loop-choice l =
    is_some (common (classes_of l.scope) (drop l.choice-index l.choice-items)
    (within l.scope looked_types l.looked ∷ within l.scope types_of l.e ∷ []))
    ≡ is_some (common (classes_of l.scope) l.choice-items
    (within l.scope looked_types l.looked ∷ within l.scope types_of l.e ∷ []))
