use Rattle.std.proofs.Common.{◌≡◌, Some, ap, sym, ◌∙◌, arith}
use Rattle.std.specs.Prelude.{slice_get}
use Rattle.vm_local.proofs.Lists.{second}
use Rattle.vm_local.proofs.returning.leave.Goals as goal

pub resume-requires-clause-pc : goal.resume-requires-clause-pc
resume-requires-clause-pc c =
    let same : Some c.top_mut.result.now ≡ Some c.in-Some.g.now = sym c.top_mut.ensures.value ∙ ap (λ l. slice_get l 0) c.take_off-in-Some.ensures ∙ second c.args.t.now.frames ∙ sym c.in-Some.ensures in
    let pc : c.top_mut.result.now ≡ c.in-Some.g.now = cc in
    rw pc (omega arith)
