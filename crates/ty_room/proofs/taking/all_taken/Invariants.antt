use Rattle.std.proofs.Common.{◌≡◌, sum_by, take}
use Rattle.ty_room.specs.Capped.{capped}
use Rattle.ty_room.specs.Room.{taken_entries}
use Rattle.ty_room.proofs.taking.all_taken.Given as goal

abbrev pub invariant-loop-class : goal.invariant-loop-class
invariant-loop-class l = l.so_far ≡ capped (sum_by (taken_entries l.ahead l.classes) (take l.class-index l.mixins))
