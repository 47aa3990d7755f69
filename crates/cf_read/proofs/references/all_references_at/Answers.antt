use Rattle.std.proofs.Common.{sym, ap, ◌∙◌, ◌+◌, drop, length, get_or}
use Rattle.std.proofs.lemmas.Result.{err_from_is_err_and}
use Rattle.cf_form.specs.Pool.{constant_bytes}
use Rattle.cf_read.specs.Reading.{references_at, all_references_at}
use Rattle.cf_read.proofs.Loops.{references_go, references_end, references_done, fails_so}
use Rattle.cf_read.proofs.references.all_references_at.Goals as goal

pub returns-in_err-references_at : goal.returns-in_err-references_at
returns-in_err-references_at c =
    let p = err_from_is_err_and c.from_residual.result c.from_residual.ensures.1 in
    let pool = c.args.pool.now in
    let i = c.loop-constant.constant-index in
    let e = c.in_err-references_at.field-0.0 in
    let here = ap (λ b. references_at pool c.constant-item.result b) c.skip.ensures ∙ ap (λ x. references_at pool x (drop 1 c.loop-constant.rest.now)) c.constant-item.is in
    let failed = fails_so e (references_at pool c.constant-item.result c.skip.result.now) (references_at pool (get_or pool i c.constant-item.result) (drop 1 c.loop-constant.rest.now)) here c.in_err-references_at.ensures in
    rw (p.1, p.2) (references_end e pool pool i c.constant-item.result c.loop-constant.rest.now (all_references_at pool pool c.args.bytes.now) c.loop-constant-test.true failed c.loop-constant.invariant)

pub loop-constant-preserved : goal.loop-constant-preserved
loop-constant-preserved c =
    let pool = c.args.pool.now in
    let i = c.loop-constant.constant-index in
    let bytes = c.loop-constant.rest.now in
    let here = ap (λ b. references_at pool c.constant-item.result b) c.skip.ensures ∙ ap (λ x. references_at pool x (drop 1 bytes)) c.constant-item.is in
    let more = references_go pool pool i c.constant-item.result bytes (all_references_at pool pool c.args.bytes.now) c.loop-constant-test.true (sym here ∙ c.in_ok-references_at.ensures) c.loop-constant.invariant in
    let rest_is = c.behind-rest.ensures ∙ ap (λ x. drop (length (constant_bytes x)) bytes) c.constant-item.is in
    ap (λ b. all_references_at pool (drop (i + 1) pool) b) rest_is ∙ more

pub returns : goal.returns
returns c = references_done c.args.pool.now c.args.pool.now c.loop-constant.constant-index c.loop-constant.rest.now (all_references_at c.args.pool.now c.args.pool.now c.args.bytes.now) c.loop-constant-test.false c.loop-constant.invariant
