use Rattle.sl_top.proofs.Gained.{front_of_more, front_after, on_err, on_err_from}
use Rattle.sl_top.proofs.outcome.write_parts.Goals as goal

pub returns-in_err-write_all-clause-front : goal.returns-in_err-write_all-clause-front
returns-in_err-write_all-clause-front g c = on_err c.from_residual.result _ (front_of_more _ _ _ _ c.in_err-write_all.ensures.front)

pub returns-in_err-write_all-2-clause-front : goal.returns-in_err-write_all-2-clause-front
returns-in_err-write_all-2-clause-front g c =
    on_err c.from_residual-in_err-write_all-2.result _ (front_after _ _ _ _ _ c.in_ok-write_all.ensures.whole (front_of_more _ _ _ _ c.in_err-write_all-2.ensures.front))

pub returns-clause-front : goal.returns-clause-front
returns-clause-front g c =
    on_err_from c.write_all-3.result _ _ (λ f. front_after _ _ _ _ _ c.in_ok-write_all.ensures.whole (front_after _ _ _ _ _ c.in_ok-write_all-2.ensures.whole f)) c.write_all-3.ensures.front
