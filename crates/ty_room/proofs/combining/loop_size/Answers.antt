use Rattle.std.proofs.Common.{refl, ◌+◌}
use Rattle.ty_room.specs.Sizing.{loop_size}
use Rattle.ty_room.proofs.combining.loop_size.Goals as goal

pub returns : goal.returns
unfolding loop_size
returns c = λ x y sx sy. record {
  tries = c.plus-tries.ensures.whole x.tries y.tries sx.tries sy.tries;
  entries = c.plus-entries.ensures.whole x.entries y.entries sx.entries sy.entries;
  supers = c.plus-supers.ensures.whole x.supers y.supers sx.supers sy.supers;
  value = c.plus-value.ensures.whole (x.test + y.value) 5 (c.plus-parts.ensures.whole x.test y.value sx.test sy.value) refl;
  test = c.plus-test.ensures.whole (x.test + y.value) 8 (c.plus-parts.ensures.whole x.test y.value sx.test sy.value) refl;
  kept = refl;
  fixed = refl;
}
