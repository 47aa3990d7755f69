use Rattle.std.proofs.Common.{◌+◌, ◌++◌, drop, ap, ◌∙◌}
use Rattle.std.specs.Prelude.{option_to_list}
use Rattle.sm_act.proofs.Listed.{drop_step}
use Rattle.sm_act.proofs.arguments.behind_first.Goals as goal

pub loop-at-preserved : goal.loop-at-preserved
loop-at-preserved c =
    ap (λ l. l ++ drop (c.loop-at.at + 1) c.args.args.now) (c.in_ok-push_copy.ensures ∙ ap (λ o. c.loop-at.rest ++ option_to_list o) c.get.ensures)
    ∙ drop_step c.args.args.now c.loop-at.rest _ c.loop-at.at c.loop-at.invariant
