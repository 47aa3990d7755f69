use Rattle.std.proofs.Common.{◌≡◌, ◌+◌, sum_by, take}
use Rattle.ty_room.specs.Capped.{capped}
use Rattle.ty_room.specs.Sizing.{expr_size}
use Rattle.ty_room.proofs.bodies.statements_weight.Given as goal

abbrev pub invariant-loop-e : goal.invariant-loop-e
invariant-loop-e l = l.so_far ≡ capped (sum_by (λ e. (expr_size l.ahead e).value + 1) (take l.e-index l.body))
