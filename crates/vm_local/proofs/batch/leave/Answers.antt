use Rattle.std.proofs.Common.{sym, subst}
use Rattle.vm_state.specs.Local.{LocalAfter, IsLocal}
use Rattle.vm_local.proofs.batch.leave.Goals as goal

pub returns : goal.returns
returns c =
    let After : LocalAfter → Type 0 = λ a. IsLocal a c.settle.result c.args.t.now c.settle.new.t in
    subst After (sym c.requires.leaves) c.settle.ensures
