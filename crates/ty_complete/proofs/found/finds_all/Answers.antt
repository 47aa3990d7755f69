use Rattle.std.proofs.Common.{arith}
use Rattle.ty_complete.proofs.Finds.{broken_at_number, kept_at_number, kept_at_all}
use Rattle.ty_complete.proofs.found.finds_all.Goals as goal

pub returns-then-not-finds_where_it_must : goal.returns-then-not-finds_where_it_must
returns-then-not-finds_where_it_must c =
    broken_at_number c.args.p.now c.loop-number.number c.finds_where_it_must.result c.finds_where_it_must.ensures c.if-not-finds_where_it_must.true

pub loop-number-preserved : goal.loop-number-preserved
loop-number-preserved c =
    kept_at_number c.args.p.now c.loop-number.number c.finds_where_it_must.result c.finds_where_it_must.ensures
    c.if-not-finds_where_it_must.false c.loop-number.invariant

pub returns : goal.returns
returns c =
    kept_at_all c.args.p.now c.loop-number.number (omega (arith, c.len-number-end.ensures, c.loop-number-test.false)) c.loop-number.invariant
