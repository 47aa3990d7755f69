use Rattle.std.proofs.Common.{◌≡◌, ◌++◌, drop}
use Rattle.rt_trace.specs.Traces.{escaped}
use Rattle.rt_trace.proofs.event_text.put_escaped.Given as goal

abbrev pub invariant-loop-byte : goal.invariant-loop-byte
invariant-loop-byte l =
    l.into.items ++ escaped (drop l.byte-index l.text) ≡ l.initial.into.items ++ escaped l.text
