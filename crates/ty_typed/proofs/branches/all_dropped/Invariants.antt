use Rattle.std.proofs.Common.{◌≡◌, drop}
use Rattle.std.specs.List.{list_all}
use Rattle.ty_typed.specs.NodeTyped.{is_dropped}
use Rattle.ty_typed.specs.Scopes.{within}
use Rattle.ty_typed.proofs.branches.all_dropped.Given as goal

abbrev pub invariant-loop-e : goal.invariant-loop-e
invariant-loop-e l = list_all (within l.scope is_dropped) (drop l.e-index l.es) ≡ list_all (within l.scope is_dropped) l.es
