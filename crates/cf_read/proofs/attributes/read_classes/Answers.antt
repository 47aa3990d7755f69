use Rattle.std.proofs.lemmas.Result.{err_from_is_err_and}
use Rattle.cf_form.specs.declared.kind.Kind.TheVariants as kind
use Rattle.cf_read.specs.Reading.{many_at, index_at}
use Rattle.cf_read.proofs.Loops.{many_goes, many_ends, many_done}
use Rattle.cf_read.proofs.attributes.read_classes.Goals as goal

pub returns-in_err-class : goal.returns-in_err-class
returns-in_err-class c =
    let p = err_from_is_err_and c.from_residual.result c.from_residual.ensures.1 in
    let one = index_at c.args.pool.now kind.Class in
    rw (p.1, p.2) (many_ends one c.in_err-class.field-0.0 c.loop.classes.items c.args.count c.loop.counter c.loop.rest.now (many_at one c.args.count c.args.bytes.now) c.loop-test.true c.in_err-class.ensures c.loop.invariant)

pub loop-preserved : goal.loop-preserved
loop-preserved c =
    let one = index_at c.args.pool.now kind.Class in
    rw c.in_ok-push.ensures.items (many_goes one c.loop.classes.items c.args.count c.loop.counter c.loop.rest.now c.in_ok-class.after.now c.in_ok-class.class (many_at one c.args.count c.args.bytes.now) c.loop-test.true c.in_ok-class.ensures c.loop.invariant)

pub returns : goal.returns
returns c =
    let one = index_at c.args.pool.now kind.Class in
    many_done one c.loop.classes.items c.args.count c.loop.counter c.loop.rest.now (many_at one c.args.count c.args.bytes.now) c.loop-test.false c.loop.invariant
