use Rattle.std.proofs.lemmas.Result.{err_from_is_err_and}
use Rattle.cf_read.specs.Reading.{passed_at}
use Rattle.cf_read.proofs.Loops.{passed_goes, passed_ends, passed_done}
use Rattle.cf_read.proofs.attributes.passed_at.Goals as goal

pub returns-in_err-rest : goal.returns-in_err-rest
returns-in_err-rest c =
    let p = err_from_is_err_and c.from_residual.result c.from_residual.ensures.1 in
    rw (p.1, p.2) (passed_ends c.in_err-rest.field-0.0 c.args.count c.loop.counter c.loop.rest.now (passed_at c.args.count c.args.bytes.now) c.loop-test.true c.in_err-rest.ensures c.loop.invariant)

pub loop-preserved : goal.loop-preserved
loop-preserved c =
    passed_goes c.args.count c.loop.counter c.loop.rest.now c.in_ok-rest.rest.now (passed_at c.args.count c.args.bytes.now) c.loop-test.true c.in_ok-rest.ensures c.loop.invariant

pub returns : goal.returns
returns c = passed_done c.args.count c.loop.counter c.loop.rest.now (passed_at c.args.count c.args.bytes.now) c.loop-test.false c.loop.invariant
