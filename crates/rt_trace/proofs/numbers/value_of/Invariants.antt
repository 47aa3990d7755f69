use Rattle.std.proofs.Common.{◌≡◌, ◌<◌, ◌^◌, drop}
use Rattle.std.specs.Str.{all_ascii_digits}
use Rattle.rt_trace.specs.Reading.{value_after}
use Rattle.rt_trace.proofs.numbers.value_of.Given as goal

abbrev pub invariant-loop-digit : goal.invariant-loop-digit
invariant-loop-digit l =
    (value_after l.value (drop l.digit-index l.digits) ≡ value_after 0 l.digits)
    × (all_ascii_digits (drop l.digit-index l.digits) ≡ all_ascii_digits l.digits)
    × (l.value < 10 ^ l.digit-index)
