use Rattle.sl_top.proofs.Gained.{front_of_more, front_after, on_err, on_err_from}
use Rattle.sl_top.proofs.refusals.write_spot_line.Goals as goal

pub returns-in_err-write_parts-clause-front : goal.returns-in_err-write_parts-clause-front
returns-in_err-write_parts-clause-front g c =
    let v = c.as_bytes.ensures.value in let t = c.format.ensures.text in
    let f = rw (v, t) at c.in_err-write_parts.ensures.front in
    on_err c.from_residual.result _ (front_of_more _ _ _ _ f)

pub returns-in_err-write_parts-2-clause-front : goal.returns-in_err-write_parts-2-clause-front
returns-in_err-write_parts-2-clause-front g c =
    let v = c.as_bytes.ensures.value in let t = c.format.ensures.text in
    let w = c.as_bytes-2.ensures.value in let u = c.format-2.ensures.text in
    let one = rw (v, t) at c.in_ok-write_parts.ensures.whole in
    let f = rw (w, u) at c.in_err-write_parts-2.ensures.front in
    on_err c.from_residual-in_err-write_parts-2.result _ (front_after _ _ _ _ _ one (front_of_more _ _ _ _ f))

pub returns-clause-front : goal.returns-clause-front
returns-clause-front g c =
    let v = c.as_bytes.ensures.value in let t = c.format.ensures.text in
    let w = c.as_bytes-2.ensures.value in let u = c.format-2.ensures.text in
    let one = rw (v, t) at c.in_ok-write_parts.ensures.whole in
    let two = rw (w, u) at c.in_ok-write_parts-2.ensures.whole in
    on_err_from c.write_parts-3.result _ _ (λ f. front_after _ _ _ _ _ one (front_after _ _ _ _ _ two f)) c.write_parts-3.ensures.front
