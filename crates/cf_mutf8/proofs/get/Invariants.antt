use Rattle.std.proofs.Common.{◌-◌, length, string_bytes}
use Rattle.std.specs.Str.{chars}
use Rattle.cf_mutf8.specs.Reading.{IsReadTo}
use Rattle.cf_mutf8.proofs.get.Given as goal

abbrev pub invariant-loop-at : goal.invariant-loop-at
invariant-loop-at l = IsReadTo l.bytes (chars (string_bytes l.text)) l.at

abbrev pub decreases-loop-at : goal.decreases-loop-at
decreases-loop-at l = length l.bytes - l.at
