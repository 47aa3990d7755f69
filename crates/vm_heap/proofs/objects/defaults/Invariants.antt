use Rattle.std.proofs.Common.{◌≡◌, ◌++◌, map, drop}
use Rattle.vm_state.specs.Heaps.{default}
use Rattle.vm_heap.proofs.objects.defaults.Given as goal

abbrev pub invariant-loop-slot : goal.invariant-loop-slot
invariant-loop-slot l =
    l.fields ++ map (λ slot. default slot.kind) (drop l.slot-index l.slots) ≡ map (λ slot. default slot.kind) l.slots
