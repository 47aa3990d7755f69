use Rattle.std.proofs.Common.{◌≡◌, take, not}
use Rattle.std.specs.List.{filter}
use Rattle.ty_linear.specs.Linear.{is_in}
use Rattle.ty_complete.proofs.linearised.lacking.Given as goal

abbrev pub invariant-loop-class : goal.invariant-loop-class
invariant-loop-class l = l.list ≡ filter (λ class. not (is_in l.behind class)) (take l.class-index l.front)
