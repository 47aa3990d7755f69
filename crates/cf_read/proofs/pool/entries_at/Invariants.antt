use Rattle.std.proofs.Common.{◌≡◌}
use Rattle.cf_read.specs.Reading.{entries_at}
use Rattle.cf_read.proofs.Loops.{with_front}
use Rattle.cf_read.proofs.pool.entries_at.Given as goal

abbrev pub invariant-loop-left : goal.invariant-loop-left
invariant-loop-left l = with_front l.pool.items (entries_at l.left l.rest) ≡ entries_at l.count l.bytes

abbrev pub decreases-loop-left : goal.decreases-loop-left
decreases-loop-left l = l.left
