use Rattle.std.proofs.Common.{ℕ, ◌-◌, List, length}
use Rattle.cf_mutf8.specs.Reading.{IsReadTo}
use Rattle.cf_mutf8.proofs.decode.fault_from.Given as goal

abbrev pub invariant-loop-at : goal.invariant-loop-at
invariant-loop-at l = (text : List ℕ) × IsReadTo l.bytes text l.at

abbrev pub decreases-loop-at : goal.decreases-loop-at
decreases-loop-at l = length l.bytes - l.at
