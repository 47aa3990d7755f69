use Rattle.std.proofs.Common.{IsTrue}
use Rattle.ty_walk.specs.Everywhere.{AllNodesOf}
use Rattle.ty_walk.proofs.Standing.{broken_at_item, kept_at_item, kept_at_each}
use Rattle.ty_walk.proofs.walking.holds_in_classes.Goals as goal

pub returns-then-not-holds_in_class : goal.returns-then-not-holds_in_class
returns-then-not-holds_in_class g c =
    broken_at_item (AllNodesOf (λ node. IsTrue (g.R.Rule.holds c.args.rule.now node))) c.args.classes.now c.loop-class.class-index c.class-item.result
    c.holds_in_class.result c.loop-class-test.true c.class-item.is c.holds_in_class.ensures c.if-not-holds_in_class.true

pub loop-class-preserved : goal.loop-class-preserved
loop-class-preserved g c =
    kept_at_item (AllNodesOf (λ node. IsTrue (g.R.Rule.holds c.args.rule.now node))) c.args.classes.now c.loop-class.class-index c.class-item.result
    c.holds_in_class.result c.loop-class-test.true c.class-item.is c.holds_in_class.ensures c.if-not-holds_in_class.false c.loop-class.invariant

pub returns : goal.returns
returns g c =
    kept_at_each (AllNodesOf (λ node. IsTrue (g.R.Rule.holds c.args.rule.now node))) c.args.classes.now c.loop-class.class-index c.loop-class-test.false c.loop-class.invariant
