use Rattle.std.proofs.Common.{refl, arith, ◌≡◌, ◌+◌, min}
use Rattle.ty_room.specs.Capped.{capped}
use Rattle.ty_room.specs.Sizing.{make_size}
use Rattle.ty_room.proofs.combining.make_size.Goals as goal

pub returns : goal.returns
unfolding make_size
returns c = λ x sx.
    let read : c.min-read.result ≡ capped (min x.test (x.value + 14)) = omega (arith, c.min-read.ensures, sx.test, c.plus-made.ensures.whole x.value 14 sx.value refl) in
    record {
      value = c.plus-value.ensures.whole 24 (min x.test (x.value + 14)) refl read;
      test = c.plus-test.ensures.whole 27 (min x.test (x.value + 14)) refl read;
      entries = c.plus-entries.ensures.whole 3 x.entries refl sx.entries;
      tries = sx.tries;
      supers = sx.supers;
      kept = refl;
      fixed = refl;
    }
