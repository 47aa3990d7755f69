use Rattle.std.proofs.Common.{[]}
use Rattle.sl_top.proofs.Outcomes.{is_nil}
use Rattle.sl_top.proofs.reading.line.is_end.Goals as goal

pub returns-in-Some : goal.returns-in-Some
returns-in-Some c =
    let lines = c.in-Some.ensures [] in
    let nil = is_nil c.in-Some.rest.now c.is_empty.result c.is_empty.ensures in
    ((λ t. lines.1 (nil.0 t)), (λ a. nil.1 (lines.0 a)))

pub returns-in-None : goal.returns-in-None
returns-in-None c = ((λ t. absurd cc), (λ a. absurd (c.in-None.ensures [] a)))
