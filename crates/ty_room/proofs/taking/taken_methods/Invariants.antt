use Rattle.std.proofs.Common.{◌≡◌, ◌≤◌, take}
use Rattle.std.specs.List.{count_by}
use Rattle.ty_room.specs.Room.{is_taken}
use Rattle.ty_room.proofs.taking.taken_methods.Given as goal

abbrev pub invariant-loop-method : goal.invariant-loop-method
invariant-loop-method l = record {
  bound : l.count ≤ l.method-index;
  counted : l.count ≡ count_by is_taken (take l.method-index l.methods);
}
