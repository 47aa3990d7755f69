use Rattle.std.proofs.Common.{◌<◌, ◌^◌, length}
use Rattle.sl_top.specs.Reading.{HasDigits}
use Rattle.sl_top.proofs.reading.literal.number.Given as goal

abbrev pub invariant-digits : goal.invariant-digits
invariant-digits l = record { small : l.value < 2 ^ 31; read : HasDigits l.bytes l.value l.rest }

abbrev pub decreases-digits : goal.decreases-digits
decreases-digits l = length l.rest
