use Rattle.std.proofs.Common.{◌≡◌, sum_by, take}
use Rattle.ty_room.specs.Capped.{capped}
use Rattle.ty_room.specs.Room.{method_entries}
use Rattle.ty_room.proofs.pool.all_methods.Given as goal

abbrev pub invariant-loop-method : goal.invariant-loop-method
invariant-loop-method l = l.so_far ≡ capped (sum_by (method_entries l.ahead l.kind) (take l.method-index l.methods))
