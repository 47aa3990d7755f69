use Rattle.std.proofs.lemmas.Result.{IfOk-weaker}
use Rattle.ty_complete.proofs.completeness.classes_fit.Goals as goal

pub returns : goal.returns
returns c =
    IfOk-weaker c.finds_all.result _ _
    (λ answer told. (
      λ h. (c.in_ok-has_linearisations.ensures.0 c.if-not-branch.false, c.in_ok-has_main.ensures.0 c.if-not-branch-2.false, c.members_agree.ensures.0 c.if-not-members_agree.false, told.0 h),
      λ parts. told.1 parts.3,
    ))
    c.finds_all.ensures
