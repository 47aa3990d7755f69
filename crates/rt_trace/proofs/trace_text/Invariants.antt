use Rattle.std.proofs.Common.{◌≡◌, ◌++◌, drop}
use Rattle.rt_trace.specs.Traces.{trace_text}
use Rattle.rt_trace.proofs.trace_text.Given as goal

abbrev pub invariant-loop-event : goal.invariant-loop-event
invariant-loop-event l =
    l.text.items ++ trace_text l.numbered (drop l.event-index l.events) ≡ trace_text l.numbered l.events
