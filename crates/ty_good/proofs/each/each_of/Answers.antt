use Rattle.std.proofs.Common.{refl}
use Rattle.ty_good.proofs.Numbered.{kept_more, kept_all, at_number}
use Rattle.ty_good.proofs.each.each_of.Goals as goal

pub loop-number-preserved : goal.loop-number-preserved
loop-number-preserved g c =
    kept_more (g.R.ClassRule.keeps c.args.rule.now) c.args.classes.now c.loop-number.number _ c.loop-number-test.true c.index-classes-number.is
    (c.in_ok-keeps.ensures.0 c.if-not-branch.false) c.loop-number.invariant

pub returns : goal.returns
returns g c =
    (λ h. kept_all (g.R.ClassRule.keeps c.args.rule.now) c.args.classes.now c.loop-number.number c.loop-number-test.false c.loop-number.invariant, λ h. refl)

pub returns-then-not-branch : goal.returns-then-not-branch
returns-then-not-branch g c = (
  λ h. absurd (cc),
  λ all. cc (c.in_ok-keeps.ensures.1 (at_number (g.R.ClassRule.keeps c.args.rule.now) c.args.classes.now c.loop-number.number _ c.loop-number-test.true c.index-classes-number.is all)),
)
