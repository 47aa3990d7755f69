use Rattle.std.proofs.Common.{◌≡◌, drop}
use Rattle.ty_typed.specs.NodeTyped.{cases_hold}
use Rattle.ty_typed.specs.Looked.{looked_types}
use Rattle.ty_typed.specs.Scopes.{within}
use Rattle.ty_typed.proofs.branches.cases_hold.Given as goal

abbrev pub invariant-loop-c : goal.invariant-loop-c
invariant-loop-c l =
    within l.scope cases_hold (within l.scope looked_types l.looked) (drop l.c-index l.cases)
    ≡ within l.scope cases_hold (within l.scope looked_types l.looked) l.cases
