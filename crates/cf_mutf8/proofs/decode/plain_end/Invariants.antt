use Rattle.std.proofs.Common.{ℕ, ◌≤◌, ◌<◌, ◌-◌, length, get_or}
use Rattle.std.specs.Int.{IsInRange}
use Rattle.cf_mutf8.proofs.decode.plain_end.Given as goal

abbrev pub invariant-loop-end : goal.invariant-loop-end
invariant-loop-end l = record {
  from : l.at ≤ l.end;
  to : l.end ≤ length l.bytes;
  plain : (k : ℕ) → l.at ≤ k → k < l.end → IsInRange 0x01 0x7F (get_or l.bytes k 0);
}

abbrev pub decreases-loop-end : goal.decreases-loop-end
decreases-loop-end l = length l.bytes - l.end
