use Rattle.std.proofs.Common.{refl}
use Rattle.ty_room.specs.Sizing.{covered}
use Rattle.ty_room.proofs.combining.covered.Goals as goal

pub returns : goal.returns
unfolding covered
returns c = λ x sx. record {
  value = sx.value;
  test = sx.test;
  tries = sx.tries;
  entries = sx.entries;
  supers = sx.supers;
  kept = refl;
  fixed = refl;
}
