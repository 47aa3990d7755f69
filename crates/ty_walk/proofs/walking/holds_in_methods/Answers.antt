use Rattle.std.proofs.Common.{IsTrue}
use Rattle.ty_walk.specs.Parts.{KeptInMethod}
use Rattle.ty_walk.proofs.Standing.{broken_at_item, kept_at_item, kept_at_each}
use Rattle.ty_walk.proofs.walking.holds_in_methods.Goals as goal

pub returns-then-not-holds_in_method : goal.returns-then-not-holds_in_method
returns-then-not-holds_in_method g c =
    broken_at_item (KeptInMethod (λ node. IsTrue (g.R.Rule.holds c.args.rule.now node))) c.args.methods.now c.loop-method.method-index c.method-item.result
    c.holds_in_method.result c.loop-method-test.true c.method-item.is c.holds_in_method.ensures c.if-not-holds_in_method.true

pub loop-method-preserved : goal.loop-method-preserved
loop-method-preserved g c =
    kept_at_item (KeptInMethod (λ node. IsTrue (g.R.Rule.holds c.args.rule.now node))) c.args.methods.now c.loop-method.method-index c.method-item.result
    c.holds_in_method.result c.loop-method-test.true c.method-item.is c.holds_in_method.ensures c.if-not-holds_in_method.false c.loop-method.invariant

pub returns : goal.returns
returns g c =
    kept_at_each (KeptInMethod (λ node. IsTrue (g.R.Rule.holds c.args.rule.now node))) c.args.methods.now c.loop-method.method-index c.loop-method-test.false c.loop-method.invariant
