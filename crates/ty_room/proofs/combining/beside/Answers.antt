use Rattle.std.proofs.Common.{refl}
use Rattle.ty_room.specs.Sizing.{beside}
use Rattle.ty_room.proofs.combining.beside.Goals as goal

pub returns : goal.returns
unfolding beside
returns c = λ x y sx sy. record {
  value = c.plus-value.ensures.whole x.value y.value sx.value sy.value;
  test = c.plus-test.ensures.whole x.test y.test sx.test sy.test;
  tries = c.plus-tries.ensures.whole x.tries y.tries sx.tries sy.tries;
  entries = c.plus-entries.ensures.whole x.entries y.entries sx.entries sy.entries;
  supers = c.plus-supers.ensures.whole x.supers y.supers sx.supers sy.supers;
  kept = c.plus-kept.ensures.whole x.kept 8 sx.kept refl;
  fixed = refl;
}
