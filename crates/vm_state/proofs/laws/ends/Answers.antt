use Rattle.std.proofs.Common.{◌≡◌, ℕ, [], ap}
use Rattle.cf_link.specs.declared.linked.Linked.{Linked}
use Rattle.runs.specs.System.{Ended}
use Rattle.vm_state.specs.declared.heap.Heap.{Heap}
use Rattle.vm_state.specs.declared.thread.Thread.{Thread}
use Rattle.vm_state.specs.Local.{steps_among}
use Rattle.vm_state.specs.Machine.{vm, vm_next, vm_step_by}
use Rattle.vm_state.proofs.laws.ends.Goals as goal

ends_without : (k : Linked) (t : ℕ) (h : Heap) (x : Thread) → x.frames ≡ [] → (vm k).step t h x ≡ Ended
ends_without k t h x none = ap (λ fs. vm_next (vm_step_by k h x (steps_among k x fs) (steps_among k x fs).step)) none

pub returns : goal.returns
returns c = record { ended = ends_without }
