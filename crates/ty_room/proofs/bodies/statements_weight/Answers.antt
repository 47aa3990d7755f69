use Rattle.std.proofs.Common.{◌+◌, arith}
use Rattle.ty_room.specs.Sizing.{expr_size}
use Rattle.ty_room.proofs.Folds.{sum_next}
use Rattle.ty_room.proofs.bodies.statements_weight.Goals as goal

pub loop-e-preserved : goal.loop-e-preserved
loop-e-preserved c =
    sum_next (λ e. (expr_size c.args.ahead e).value + 1) c.args.body.now c.loop-e.e-index c.e-item.result c.loop-e.so_far c.plus-bytes.result c.plus-so_far.result
    c.loop-e-test.true c.e-item.is c.loop-e.invariant c.plus-so_far.ensures.sum (omega (arith, c.plus-bytes.ensures.sum, c.expr_size.ensures.value))
