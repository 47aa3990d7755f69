use Rattle.std.proofs.Common.{◌≡◌, ◌-◌, ◌++◌, Some, take, map, reverse, ap, ◌∙◌, arith}
use Rattle.sm_decide.specs.Forms.{pushed}
use Rattle.sm_decide.proofs.Listed.{reverse_pushed}
use Rattle.sm_decide.proofs.beginning.all_operands.Goals as goal

pub loop-left-preserved : goal.loop-left-preserved
loop-left-preserved c =
    ap (λ l. l ++ map Some (reverse (take (c.loop-left.left - 1) c.args.operands.now))) (c.in_ok-push_some.ensures ∙ ap (pushed c.loop-left.made) c.get.ensures)
    ∙ reverse_pushed c.args.operands.now c.loop-left.made _ c.loop-left.left (omega arith) c.loop-left.invariant
