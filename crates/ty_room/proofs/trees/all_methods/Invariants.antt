use Rattle.std.proofs.Common.{map, take, fold}
use Rattle.ty_room.specs.Capped.{IsSize}
use Rattle.ty_room.specs.Sizing.{beside, nothing}
use Rattle.ty_room.specs.Room.{body_size}
use Rattle.ty_room.proofs.trees.all_methods.Given as goal

abbrev pub invariant-loop-method : goal.invariant-loop-method
invariant-loop-method l = IsSize l.so_far (fold beside nothing (map (λ method. body_size l.ahead method.body) (take l.method-index l.methods)))
