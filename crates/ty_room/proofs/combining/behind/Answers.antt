use Rattle.std.proofs.Common.{refl, ◌+◌}
use Rattle.ty_room.specs.Sizing.{behind}
use Rattle.ty_room.proofs.combining.behind.Goals as goal

pub returns : goal.returns
unfolding behind
returns c = λ x y sx sy. record {
  tries = c.plus-tries.ensures.whole x.tries y.tries sx.tries sy.tries;
  entries = c.plus-entries.ensures.whole x.entries y.entries sx.entries sy.entries;
  supers = c.plus-supers.ensures.whole x.supers y.supers sx.supers sy.supers;
  value = c.plus-value.ensures.whole (x.value + x.kept) y.value (c.plus-dropped.ensures.whole x.value x.kept sx.value sx.kept) sy.value;
  test = c.plus-test.ensures.whole (x.value + x.kept) y.test (c.plus-dropped.ensures.whole x.value x.kept sx.value sx.kept) sy.test;
  kept = refl;
  fixed = refl;
}
