use Rattle.std.proofs.Common.{◌≡◌, sym, ap, subst, ◌∙◌}
use Rattle.std.specs.Prelude.{IfOk, option_to_list}
use Rattle.sm_rule.specs.Values.{computed}
use Rattle.sm_decide.proofs.Listed.{one_taken}
use Rattle.sm_decide.proofs.receiving.compute_two.Goals as goal

pub returns : goal.returns
returns c =
    subst (λ l. IfOk c.compute.result (λ m. m ≡ computed c.args.op c.args.v.now l))
    (ap option_to_list c.get.ensures ∙ sym (one_taken c.args.operands.now))
    c.compute.ensures
