use Rattle.std.proofs.Common.{◌∙◌, arith}
use Rattle.sl_io.proofs.Gaining.{gains_front, gains_further}
use Rattle.sl_io.proofs.write_all.Goals as goal

pub returns-in-Ok-eq0-clause-front : goal.returns-in-Ok-eq0-clause-front
returns-in-Ok-eq0-clause-front g c =
    gains_front _ _ _ _ (gains_further _ _ _ _ _ _ _ c.in-Ok-eq0.ensures.bound c.loop-at.invariant.gained c.in-Ok-eq0.ensures.gains)

pub loop-at-preserved : goal.loop-at-preserved
loop-at-preserved g c = record {
  within = omega (arith, c.in-Ok.ensures.bound);
  gained = gains_further _ _ _ _ _ _ _ c.in-Ok.ensures.bound c.loop-at.invariant.gained c.in-Ok.ensures.gains;
  quiet = c.in-Ok.ensures.quiet (omega arith) ∙ c.loop-at.invariant.quiet;
}

pub returns-in-Err-clause-front : goal.returns-in-Err-clause-front
returns-in-Err-clause-front g c = gains_front _ _ _ _ (c.in-Err.ensures.kept ∙ c.loop-at.invariant.gained)
