use Rattle.std.proofs.Common.{refl}
use Rattle.ty_room.specs.Sizing.{trying}
use Rattle.ty_room.proofs.combining.trying.Goals as goal

pub returns : goal.returns
unfolding trying
returns c = λ x sx. record {
  value = sx.value;
  entries = sx.entries;
  supers = sx.supers;
  test = c.plus-test.ensures.whole x.value 3 sx.value refl;
  tries = c.plus-tries.ensures.whole x.tries 1 sx.tries refl;
  kept = refl;
  fixed = refl;
}
