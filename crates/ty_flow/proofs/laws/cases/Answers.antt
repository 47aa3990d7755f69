use Rattle.std.proofs.Common.{refl}
use Rattle.ty_flow.proofs.Turns.{first_chosen}
use Rattle.ty_flow.proofs.laws.cases.Goals as goal

pub returns : goal.returns
returns c = record {
  first = first_chosen;
  none = refl;
}
