use Rattle.std.proofs.Common.{None}
use Rattle.std.specs.Prelude.{option_map}
use Rattle.std.proofs.lemmas.Result.{err_from_is_err_and}
use Rattle.cf_read.specs.Reading.{method_attributes_at}
use Rattle.cf_read.specs.Views.{found_of}
use Rattle.cf_read.proofs.InTurn.{attributes_go, attributes_end, attributes_done}
use Rattle.cf_read.proofs.method_attributes.method_attributes_at.Goals as goal

pub returns-in_err-next : goal.returns-in_err-next
returns-in_err-next c =
    let p = err_from_is_err_and c.from_residual.result c.from_residual.ensures.1 in
    let pool = c.args.pool.now in
    rw (p.1, p.2) (attributes_end c.in_err-next.field-0.0 c.args.count c.loop.counter pool c.args.access (option_map found_of c.loop.code) c.loop.rest.now (method_attributes_at c.args.count pool c.args.access None c.args.bytes.now) c.loop-test.true c.in_err-next.ensures c.loop.invariant)

pub loop-preserved : goal.loop-preserved
loop-preserved c =
    let pool = c.args.pool.now in
    attributes_go c.args.count c.loop.counter pool c.args.access (option_map found_of c.loop.code) (option_map found_of c.in_ok-next.next) c.loop.rest.now c.in_ok-next.after.now (method_attributes_at c.args.count pool c.args.access None c.args.bytes.now) c.loop-test.true c.in_ok-next.ensures c.loop.invariant

pub returns : goal.returns
returns c =
    let pool = c.args.pool.now in
    attributes_done c.args.count c.loop.counter pool c.args.access (option_map found_of c.loop.code) c.loop.rest.now (method_attributes_at c.args.count pool c.args.access None c.args.bytes.now) c.loop-test.false c.loop.invariant
