-- What the code of an instruction did that touches what threads share.
use Rattle.std.specs.Prelude.{◌≡◌}
use Rattle.vm_state.specs.declared.frame.Frame.{Frame}
use Rattle.vm_state.specs.declared.heap.Heap.{Heap}
use Rattle.vm_state.specs.declared.outcomes.HeapEffect.{HeapEffect}
use Rattle.vm_state.specs.declared.outcomes.HeapEffect.TheVariants.{Done, Memory}
use Rattle.vm_state.specs.Shared.{Shared}

-- the code did this, or lacked memory; only an instruction that is done has changed anything so far
abbrev pub Acts : Shared → HeapEffect → Heap → Heap → Frame → Frame → Type 0
Acts a Done h h' f f' = (Done ≡ a.effect) × (h' ≡ a.heap) × (f' ≡ a.frame)
Acts a Memory h h' f f' = (h' ≡ h) × (f' ≡ f)
Acts a e h h' f f' = (e ≡ a.effect) × (h' ≡ h) × (f' ≡ f)
