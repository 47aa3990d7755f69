-- An instruction that changes nothing.
use Rattle.std.proofs.Common.{refl}
use Rattle.vm_native.specs.Acts.{Acts}
use Rattle.vm_state.specs.declared.frame.Frame.{Frame}
use Rattle.vm_state.specs.declared.heap.Heap.{Heap}
use Rattle.vm_state.specs.declared.outcomes.HeapEffect.{HeapEffect}
use Rattle.vm_state.specs.declared.outcomes.HeapEffect.TheVariants.{Done, Waits, Stuck, Fail, Call, Initialise, Memory}
use Rattle.vm_state.specs.Shared.{rests}

pub rests_acts : (h : Heap) (f : Frame) (e : HeapEffect) → Acts (rests h f e) e h h f f
rests_acts h f Done = (refl, refl, refl)
rests_acts h f Waits = (refl, refl, refl)
rests_acts h f (Stuck kind) = (refl, refl, refl)
rests_acts h f (Fail class) = (refl, refl, refl)
rests_acts h f (Call target count) = (refl, refl, refl)
rests_acts h f (Initialise target) = (refl, refl, refl)
rests_acts h f Memory = (refl, refl)
