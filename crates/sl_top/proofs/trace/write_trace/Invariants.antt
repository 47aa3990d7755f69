use Rattle.std.proofs.Common.{◌≡◌, take}
use Rattle.sl_io.specs.Gains.{Gains}
use Rattle.sl_top.specs.Trace.{trace_text}
use Rattle.sl_top.proofs.trace.write_trace.Given as goal

-- the events so far were written whole
abbrev pub invariant-loop-event : goal.invariant-loop-event
invariant-loop-event g l =
    Gains (g.O.Sink.contents l.fn.out) (trace_text (take l.event-index l.trace)) (g.O.Sink.contents l.out) × (g.O.Sink.faults l.out ≡ g.O.Sink.faults l.fn.out)
