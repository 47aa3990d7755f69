use Rattle.std.proofs.Common.{refl, ◌≡◌, ◌+◌}
use Rattle.ty_room.specs.Capped.{capped}
use Rattle.ty_room.specs.Sizing.{choice_size}
use Rattle.ty_room.proofs.combining.choice_size.Goals as goal

pub returns : goal.returns
unfolding choice_size
returns c = λ x y z sx sy sz.
    let value : c.plus-value.result ≡ capped (x.test + y.value + z.value + 3) = c.plus-value.ensures.whole (x.test + y.value + z.value) 3 (c.plus-both.ensures.whole (x.test + y.value) z.value (c.plus-tested.ensures.whole x.test y.value sx.test sy.value) sz.value) refl in
    record {
      value = value;
      test = c.choice_test-test.ensures (x.test + y.value + z.value + 3) x y z value sx sy sz;
      tries = c.plus-tries.ensures.whole (x.tries + y.tries) z.tries (c.plus-two_tries.ensures.whole x.tries y.tries sx.tries sy.tries) sz.tries;
      entries = c.plus-entries.ensures.whole (x.entries + y.entries) z.entries (c.plus-two_entries.ensures.whole x.entries y.entries sx.entries sy.entries) sz.entries;
      supers = c.plus-supers.ensures.whole (x.supers + y.supers) z.supers (c.plus-two_supers.ensures.whole x.supers y.supers sx.supers sy.supers) sz.supers;
      kept = refl;
      fixed = refl;
    }
