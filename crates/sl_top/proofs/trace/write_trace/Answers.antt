use Rattle.std.proofs.Common.{ℕ, List, subst, sym}
use Rattle.sl_io.specs.Gains.{GainsFront}
use Rattle.sl_top.proofs.Gained.{front_of_more, front_after, on_err}
use Rattle.sl_top.proofs.Traces.{parted}
use Rattle.sl_top.proofs.trace.write_trace.Goals as goal

pub returns-in_err-write_event-clause-front : goal.returns-in_err-write_event-clause-front
returns-in_err-write_event-clause-front g c =
    let text = parted c.args.trace.now c.loop-event.event-index c.event-item.result c.loop-event-test.true c.event-item.is in
    let front = front_after _ _ _ _ _ c.loop-event.invariant.0 (front_of_more _ _ _ _ c.in_err-write_event.ensures.front) in
    on_err c.from_residual.result _ (subst (λ (xs : List ℕ). GainsFront (g.O.Sink.contents c.args.out.now) xs (g.O.Sink.contents c.write_event.new.out)) (sym text) front)
