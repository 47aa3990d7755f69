use Rattle.std.proofs.lemmas.Result.{err_from_is_err_and}
use Rattle.sl_top.proofs.Parts.{chain_read, no_first, no_rest}
use Rattle.sl_top.proofs.reading.term.chain.Goals as goal

pub returns-in_default : goal.returns-in_default
returns-in_default c _ = no_first c.args.bytes.now c.in_default.ensures

pub returns-in_err-rest : goal.returns-in_err-rest
returns-in_err-rest c =
    let p = err_from_is_err_and c.from_residual.result c.from_residual.ensures.1 in
    rw (p.1, p.2) (λ e. no_rest c.args.bytes.now c.in-Some.first c.in-Some.rest.now c.in-Some.ensures (c.in_err-rest.ensures e))

pub returns : goal.returns
returns c = chain_read c.args.bytes.now c.in-Some.first c.in-Some.rest.now c.in_ok-rest.rest c.in_ok-rest.after.now c.in-Some.ensures c.in_ok-rest.ensures
