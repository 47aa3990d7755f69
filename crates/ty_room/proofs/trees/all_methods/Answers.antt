use Rattle.ty_room.specs.Sizing.{beside, nothing}
use Rattle.ty_room.specs.Room.{body_size}
use Rattle.ty_room.proofs.Folds.{fold_next}
use Rattle.ty_room.proofs.trees.all_methods.Goals as goal

pub loop-method-preserved : goal.loop-method-preserved
loop-method-preserved c =
    rw (fold_next beside nothing (λ method. body_size c.args.ahead method.body) c.args.methods.now c.loop-method.method-index c.method-item.result c.loop-method-test.true c.method-item.is)
    (c.beside-so_far.ensures _ _ c.loop-method.invariant c.body_size.ensures)
