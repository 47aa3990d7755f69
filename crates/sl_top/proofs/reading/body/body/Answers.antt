use Rattle.std.proofs.Common.{sym, refl, true≢false, ◌∙◌}
use Rattle.std.proofs.lemmas.Result.{err_from_is_err_and}
use Rattle.sl_top.proofs.Prints.{print_shorter, one_print_more, no_chain, body_read, no_body}
use Rattle.sl_top.proofs.reading.body.body.Goals as goal

pub returns-in_err-next : goal.returns-in_err-next
returns-in_err-next c =
    let p = err_from_is_err_and c.from_residual.result c.from_residual.ensures.1 in
    rw (p.1, p.2) (λ e. no_chain c.args.bytes.now c.lines.rest.now c.lines.chains c.in-Some.inside.now c.lines.invariant (sym c.unindented.ensures ∙ c.in-Some.ensures) (c.in_err-next.ensures e))

pub lines-smaller : goal.lines-smaller
lines-smaller c = print_shorter c.in_ok-next.next c.lines.rest.now c.in-Some.inside.now c.in_ok-next.after.now (sym c.unindented.ensures ∙ c.in-Some.ensures) c.in_ok-next.ensures.is

pub lines-preserved : goal.lines-preserved
lines-preserved c = rw c.in_ok-push.ensures.ok (one_print_more c.args.bytes.now c.lines.rest.now c.lines.chains c.in_ok-next.next c.in-Some.inside.now c.in_ok-next.after.now c.lines.invariant (sym c.unindented.ensures ∙ c.in-Some.ensures) c.in_ok-next.ensures)

pub returns-then-is_end : goal.returns-then-is_end
returns-then-is_end c = body_read c.args.bytes.now c.lines.rest.now c.lines.chains c.lines.invariant (λ rest e. c.in_default.ensures rest (c.unindented.ensures ∙ e)) (c.if-is_end.ensures.0 refl)

pub returns-else-is_end : goal.returns-else-is_end
returns-else-is_end c = λ _. no_body c.args.bytes.now c.lines.rest.now c.lines.chains c.lines.invariant (λ rest e. c.in_default.ensures rest (c.unindented.ensures ∙ e)) (λ a. true≢false (sym (c.if-is_end.ensures.1 a)))
