use Rattle.ty_room.proofs.Within.{has_room}
use Rattle.ty_room.proofs.limits.source_room.Goals as goal

pub returns : goal.returns
returns c = has_room
