use Rattle.std.proofs.Common.{ap}
use Rattle.ty_room.specs.Room.{method_entries}
use Rattle.ty_room.specs.Capped.{capped}
use Rattle.ty_room.proofs.Folds.{sum_next}
use Rattle.ty_room.proofs.pool.all_methods.Goals as goal

pub loop-method-preserved : goal.loop-method-preserved
loop-method-preserved c =
    sum_next (method_entries c.args.ahead c.args.kind) c.args.methods.now c.loop-method.method-index c.method-item.result c.loop-method.so_far c.method_entries.result c.plus-so_far.result
    c.loop-method-test.true c.method-item.is c.loop-method.invariant c.plus-so_far.ensures.sum (ap capped c.method_entries.ensures)
