use Rattle.std.proofs.Common.{refl}
use Rattle.ty_room.specs.Sizing.{beside, merged, node_size, bool_size, choice_size, loop_size, behind, covered, heavier, trying, deciding_size, make_size}
use Rattle.ty_room.proofs.limits.at_limits.Goals as goal

pub returns : goal.returns
unfolding beside merged node_size bool_size choice_size loop_size behind covered heavier trying deciding_size make_size
returns c = refl
