use Rattle.std.proofs.Common.{IsTrue}
use Rattle.ty_walk.proofs.Standing.{with_body, told_as_much}
use Rattle.ty_walk.proofs.walking.holds_in_method.Goals as goal

pub returns-in-Some : goal.returns-in-Some
returns-in-Some g c =
    told_as_much (with_body (λ node. IsTrue (g.R.Rule.holds c.args.rule.now node)) c.args.method.now c.in-Some.body c.in-Some.is)
    (λ kept. kept.each c.in-Some.body c.in-Some.is) c.holds_everywhere.result c.holds_everywhere.ensures
