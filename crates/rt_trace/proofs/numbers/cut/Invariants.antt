use Rattle.std.proofs.Common.{◌≡◌, take, drop, []}
use Rattle.rt_trace.specs.Reading.{cut}
use Rattle.rt_trace.proofs.numbers.cut.Given as goal

abbrev pub invariant-loop-i : goal.invariant-loop-i
invariant-loop-i l = cut l.end (take l.i l.bytes) (drop l.i l.bytes) ≡ cut l.end [] l.bytes
