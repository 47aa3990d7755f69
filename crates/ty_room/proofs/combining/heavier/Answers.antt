use Rattle.std.proofs.Common.{refl, arith}
use Rattle.ty_room.specs.Sizing.{heavier}
use Rattle.ty_room.proofs.combining.heavier.Goals as goal

pub returns : goal.returns
unfolding heavier
returns c = λ x sx. record {
  test = sx.test;
  tries = sx.tries;
  entries = sx.entries;
  supers = sx.supers;
  kept = sx.kept;
  value = c.plus-value.ensures.whole x.value c.args.bytes sx.value (omega (arith, c.requires));
  fixed = refl;
}
