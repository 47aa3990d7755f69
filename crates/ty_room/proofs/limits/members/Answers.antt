use Rattle.std.proofs.Common.{refl}
use Rattle.ty_room.specs.Sizing.{beside, merged, node_size}
use Rattle.ty_room.proofs.limits.members.Goals as goal

pub returns-clause-few : goal.returns-clause-few
unfolding beside merged node_size
returns-clause-few c = refl

pub returns-clause-counted : goal.returns-clause-counted
unfolding beside merged node_size
returns-clause-counted c = refl
