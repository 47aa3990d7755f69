use Rattle.ty_room.proofs.Leaves.{all_leaves}
use Rattle.ty_room.proofs.plain_forms.names_and_literals.Goals as goal

pub returns : goal.returns
returns c = all_leaves
