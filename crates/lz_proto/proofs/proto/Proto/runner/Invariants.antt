use Rattle.std.proofs.Common.{◌≡◌, ◌≤◌, ◌+◌, ◌-◌, length, drop}
use Rattle.lz_proto.specs.Once.{first_inside}
use Rattle.lz_proto.proofs.proto.Proto.runner.Given as goal

abbrev pub invariant-loop-who : goal.invariant-loop-who
invariant-loop-who l = (l.who ≤ length l.self.at) × (first_inside l.cell l.self.at ≡ l.who + first_inside l.cell (drop l.who l.self.at))

abbrev pub decreases-loop-who : goal.decreases-loop-who
decreases-loop-who l = length l.self.at - l.who
