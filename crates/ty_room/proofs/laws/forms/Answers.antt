use Rattle.std.proofs.Common.{refl}
use Rattle.ty_room.specs.Sizing.{beside, merged, node_size, bool_size, choice_size, loop_size, behind, covered, heavier, trying, deciding_size, make_size}
use Rattle.ty_room.proofs.laws.forms.Goals as goal

pub returns-clause-few : goal.returns-clause-few
unfolding beside merged node_size bool_size choice_size loop_size behind covered heavier trying deciding_size make_size
returns-clause-few c = refl

pub returns-clause-no_more : goal.returns-clause-no_more
unfolding beside merged node_size bool_size choice_size loop_size behind covered heavier trying deciding_size make_size
returns-clause-no_more c = refl
