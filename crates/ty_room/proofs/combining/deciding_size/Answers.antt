use Rattle.std.proofs.Common.{refl}
use Rattle.ty_room.specs.Sizing.{deciding_size}
use Rattle.ty_room.proofs.combining.deciding_size.Goals as goal

pub returns : goal.returns
unfolding deciding_size
returns c = λ x sx. record {
  test = sx.test;
  tries = sx.tries;
  entries = sx.entries;
  supers = sx.supers;
  value = sx.test;
  kept = refl;
  fixed = refl;
}
