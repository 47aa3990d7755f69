use Rattle.std.proofs.Common.{◌<◌, length, arith, sym, ◌∙◌}
use Rattle.std.proofs.lemmas.Bool.{both_ways}
use Rattle.sl_text.proofs.Lines.{at_start, step_lf, step_on}
use Rattle.sl_text.proofs.spot.spot_at.Goals as goal
use Rattle.sl_text.proofs.spot.spot_at.Goals.{then-ends_line, else-ends_line}

pub loop-i-init : goal.loop-i-init
loop-i-init c = record { spot = at_start _; line = omega arith; column = omega arith }

pub loop-i-preserved : goal.loop-i-preserved
loop-i-preserved c =
    let i = c.loop-i.i in
    let text = c.args.text.now in
    let lt : i < length c.args.text.now = omega arith in
    elim c.if-ends_line.branch [
      | then-ends_line w ↦ rw (w.line-is, w.column-is) (record {
        spot = step_lf text i _ _ lt (sym c.at.ensures ∙ c.ends_line.ensures.0 w.if-ends_line.true) c.loop-i.invariant.spot;
        line = omega arith;
        column = omega arith;
      })
      | else-ends_line w ↦ rw (w.line-is, w.column-is) (record {
        spot = step_on text i _ _ lt (λ h. both_ways _ w.if-ends_line.false (c.ends_line.ensures.1 (c.at.ensures ∙ h))) c.loop-i.invariant.spot;
        line = omega arith;
        column = omega arith;
      })
    ]
