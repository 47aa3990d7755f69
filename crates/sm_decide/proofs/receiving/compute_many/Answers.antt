use Rattle.std.proofs.Common.{◌≡◌, sym, subst}
use Rattle.std.specs.Prelude.{IfOk}
use Rattle.sm_decide.proofs.Listed.{many_computed, few_computed}
use Rattle.sm_decide.proofs.receiving.compute_many.Goals as goal

pub returns-in-Some : goal.returns-in-Some
returns-in-Some c = sym (many_computed c.args.op c.args.v.now c.args.operands.now c.args.child _ c.requires (sym c.in-Some.ensures))

pub returns-in-None : goal.returns-in-None
returns-in-None c =
    subst (λ target. IfOk c.compute_two.result (λ m. m ≡ target))
    (sym (few_computed c.args.op c.args.v.now c.args.operands.now c.args.child c.requires (sym c.in-None.ensures)))
    c.compute_two.ensures
