use Rattle.std.proofs.Common.{◌≡◌, length}
use Rattle.ty_typed.specs.NodeTyped.{drops_all_but_last}
use Rattle.ty_typed.specs.Scopes.{within}
use Rattle.ty_typed.proofs.branches.drops_all_but_last.Given as goal

abbrev pub invariant-loop-e : goal.invariant-loop-e
invariant-loop-e l = within l.scope drops_all_but_last l.rest ≡ within l.scope drops_all_but_last l.es

abbrev pub decreases-loop-e : goal.decreases-loop-e
decreases-loop-e l = length l.rest
