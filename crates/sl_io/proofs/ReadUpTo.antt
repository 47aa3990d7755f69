-- How many bytes two reads take.
use Rattle.std.proofs.Common.{ℕ, ◌+◌, ◌≤◌, List, ◌++◌, Option, length, take, length-append, length-take, arith}
use Rattle.std.proofs.KnownBytes.{Consumes-trans}
use Rattle.std.specs.Io.KnownBytes.{Consumes}
use Rattle.sl_io.specs.Reading.{ConsumesUpTo}

-- what was read before, and the bytes of one more read
pub consumes_up_to : (first second third : Option (List ℕ)) (xs ys : List ℕ) (n most : ℕ)
    → Consumes first second xs → Consumes second third (take n ys) → length xs + n ≤ most → ConsumesUpTo first third most
consumes_up_to first second third xs ys n most before more few = record {
  bytes = xs ++ take n ys;
  few = omega (arith, length-append xs (take n ys), length-take n ys);
  consumed = Consumes-trans first second third xs (take n ys) before more;
}
