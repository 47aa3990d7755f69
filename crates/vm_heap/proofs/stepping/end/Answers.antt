use Rattle.std.proofs.Common.{sym, subst}
use Rattle.vm_state.specs.HeapStep.{HeapAfter, IsHeapStep}
use Rattle.vm_heap.proofs.stepping.end.Goals as goal

pub returns : goal.returns
returns c =
    let After : HeapAfter → Type 0 = λ a. IsHeapStep a c.end_initialiser.result c.args.h.now c.end_initialiser.new.h c.args.t.now c.end_initialiser.new.t in
    subst After (sym c.requires) c.end_initialiser.ensures
