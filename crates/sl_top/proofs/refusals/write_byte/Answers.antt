use Rattle.sl_top.proofs.Gained.{gains_both, front_of_more, front_after, on_err, on_err_from, on_ok_from}
use Rattle.sl_top.proofs.refusals.write_byte.Goals as goal

pub returns-in_err-write_parts-clause-front : goal.returns-in_err-write_parts-clause-front
returns-in_err-write_parts-clause-front g c =
    let v = c.as_bytes.ensures.value in let t = c.format.ensures.text in
    let f = rw (v, t) at c.in_err-write_parts.ensures.front in
    on_err c.from_residual.result _ (front_of_more _ _ _ _ f)

pub returns-clause-whole : goal.returns-clause-whole
returns-clause-whole g c =
    let v = c.as_bytes.ensures.value in let t = c.format.ensures.text in
    let one = rw (v, t) at c.in_ok-write_parts.ensures.whole in
    on_ok_from c.write_all.result _ _ (λ f. gains_both _ _ _ _ _ one f) c.write_all.ensures.whole

pub returns-clause-front : goal.returns-clause-front
returns-clause-front g c =
    let v = c.as_bytes.ensures.value in let t = c.format.ensures.text in
    let one = rw (v, t) at c.in_ok-write_parts.ensures.whole in
    on_err_from c.write_all.result _ _ (λ f. front_after _ _ _ _ _ one f) c.write_all.ensures.front
