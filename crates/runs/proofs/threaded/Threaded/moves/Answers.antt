use Rattle.std.proofs.Common.{◌∙◌}
use Rattle.runs.proofs.Making.{made_more, made_last}
use Rattle.runs.proofs.threaded.Threaded.moves.Goals as goal

pub loop-made-preserved : goal.loop-made-preserved
loop-made-preserved g c =
    let same = c.loop-made.invariant.0 in (
      c.in_ok-step.ensures.system ∙ same,
      made_more _ _ _ _ _ _ _ c.loop-made.invariant.1 (rw same at c.in_ok-step.ensures.answer) c.in-Moves.is
          (rw same at c.in_ok-step.ensures.state),
    )

pub returns-in_default : goal.returns-in_default
returns-in_default g c =
    let same = c.loop-made.invariant.0 in
    record {
      system = c.in_ok-step.ensures.system ∙ same;
      made = made_last _ _ _ _ _ _ _ _ c.loop-made-test.true c.loop-made.invariant.1
          (rw same at c.in_ok-step.ensures.answer) c.in_default.not-Moves (rw same at c.in_ok-step.ensures.state);
    }
