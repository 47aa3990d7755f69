use Rattle.std.proofs.Common.{subst}
use Rattle.std.specs.Prelude.{IsTrue, ◌↔◌}
use Rattle.ty_complete.specs.Merged.{AreCarried}
use Rattle.ty_complete.proofs.Carrying.{linear_from_carried, carried_from_linear}
use Rattle.ty_complete.proofs.linearised.has_linearisations.Goals as goal

pub returns : goal.returns
returns c =
    let p = c.args.p.now in
    let answer = c.in_ok-all_carried.field-0 in
    let decides : IsTrue answer ↔ AreCarried p.classes = subst (λ classes. IsTrue answer ↔ AreCarried classes) c.as_slice.ensures c.in_ok-all_carried.ensures in (
      λ h. linear_from_carried c.linearisations.ensures.exists p (decides.0 h),
      λ has. decides.1 (carried_from_linear c.linearisations.ensures.only c.linearisations.ensures.distinct p has),
    )
