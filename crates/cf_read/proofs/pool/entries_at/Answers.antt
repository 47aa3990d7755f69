use Rattle.std.proofs.Common.{arith}
use Rattle.std.proofs.lemmas.Result.{err_from_is_err_and}
use Rattle.cf_read.specs.Reading.{entries_at}
use Rattle.cf_read.proofs.Loops.{entries_go, entries_end, entries_done}
use Rattle.cf_read.proofs.pool.entries_at.Goals as goal

pub returns-in_err-constant : goal.returns-in_err-constant
returns-in_err-constant c =
    let p = err_from_is_err_and c.from_residual-in_err-constant.result c.from_residual-in_err-constant.ensures.1 in
    rw (p.1, p.2) (entries_end c.in_err-constant.field-0.0 c.loop-left.pool.items c.loop-left.left c.loop-left.rest.now (entries_at c.args.count c.args.bytes.now) c.loop-left-test.true c.in_err-constant.ensures c.loop-left.invariant)

pub loop-left-preserved : goal.loop-left-preserved
loop-left-preserved c =
    let more = entries_go c.loop-left.pool.items c.loop-left.left c.loop-left.rest.now c.in_ok-constant.after.now c.in_ok-constant.constant (entries_at c.args.count c.args.bytes.now) c.loop-left-test.true c.in_ok-constant.ensures c.loop-left.invariant in
    rw (c.in_ok-left.ensures.pool, c.in_ok-left.ensures.left) more

pub returns : goal.returns
returns c = entries_done c.loop-left.pool.items c.loop-left.left c.loop-left.rest.now (entries_at c.args.count c.args.bytes.now) (omega arith) c.loop-left.invariant
