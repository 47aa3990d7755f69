use Rattle.std.proofs.Common.{sym, subst}
use Rattle.vm_state.specs.HeapStep.{HeapAfter, IsHeapStep}
use Rattle.vm_heap.proofs.stepping.finish.Goals as goal

pub returns : goal.returns
returns c =
    let After : HeapAfter → Type 0 = λ a. IsHeapStep a c.settle.result c.args.h.now c.settle.new.h c.args.t.now c.settle.new.t in
    subst After (sym c.requires.rests) c.settle.ensures
