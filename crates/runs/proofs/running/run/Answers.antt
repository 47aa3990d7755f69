use Rattle.std.proofs.Common.{◌∙◌}
use Rattle.runs.proofs.Making.{run_more}
use Rattle.runs.proofs.running.run.Goals as goal

pub loop-turn-preserved : goal.loop-turn-preserved
loop-turn-preserved g c =
    let same = c.loop-turn.invariant.0 in (
      c.in_ok-moves.ensures.system ∙ same,
      run_more _ _ _ _ _ _ _ c.loop-turn-test.true c.loop-turn.invariant.1 (rw same at c.in_ok-moves.ensures.made),
    )
