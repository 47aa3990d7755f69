use Rattle.std.proofs.Common.{◌≡◌, ◌-◌}
use Rattle.cf_read.specs.Reading.{passed_at}
use Rattle.cf_read.proofs.attributes.passed_at.Given as goal

abbrev pub invariant-loop : goal.invariant-loop
invariant-loop l = passed_at (l.count - l.counter) l.rest ≡ passed_at l.count l.bytes
