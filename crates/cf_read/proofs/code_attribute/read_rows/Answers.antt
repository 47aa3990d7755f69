use Rattle.std.proofs.Common.{◌≡◌, ◌++◌, ◌∷◌, [], map}
use Rattle.std.proofs.lemmas.Result.{err_from_is_err_and}
use Rattle.std.proofs.lemmas.List.{map_push}
use Rattle.cf_read.specs.Reading.{many_at, row_at}
use Rattle.cf_read.specs.Views.{row_of}
use Rattle.cf_read.proofs.Loops.{many_goes, many_ends, many_done}
use Rattle.cf_read.proofs.code_attribute.read_rows.Goals as goal

pub returns-in_err-row : goal.returns-in_err-row
returns-in_err-row c =
    let p = err_from_is_err_and c.from_residual.result c.from_residual.ensures.1 in
    rw (p.1, p.2) (many_ends row_at c.in_err-row.field-0.0 (map row_of c.loop.rows.items) c.args.count c.loop.counter c.loop.rest.now (many_at row_at c.args.count c.args.bytes.now) c.loop-test.true c.in_err-row.ensures c.loop.invariant)

pub loop-preserved : goal.loop-preserved
loop-preserved c =
    let row = c.in_ok-row.row in
    let e : map row_of c.push.new.self.items ≡ map row_of c.loop.rows.items ++ row_of row ∷ [] = rw c.in_ok-push.ensures.items (map_push row_of c.loop.rows.items row) in
    rw e (many_goes row_at (map row_of c.loop.rows.items) c.args.count c.loop.counter c.loop.rest.now c.in_ok-row.after.now (row_of row) (many_at row_at c.args.count c.args.bytes.now) c.loop-test.true c.in_ok-row.ensures c.loop.invariant)

pub returns : goal.returns
returns c =
    many_done row_at (map row_of c.loop.rows.items) c.args.count c.loop.counter c.loop.rest.now (many_at row_at c.args.count c.args.bytes.now) c.loop-test.false c.loop.invariant
