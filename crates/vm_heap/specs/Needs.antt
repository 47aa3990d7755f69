-- What instructions need their class for (JVMS 5.5, 6.5).
use Rattle.std.specs.Prelude.{ℕ}
use Rattle.cf_link.specs.declared.linked.Linked.{Linked}
use Rattle.vm_state.specs.declared.frame.Frame.{Frame}
use Rattle.vm_state.specs.declared.heap.Heap.{Heap}
use Rattle.vm_state.specs.Shared.{Shared, rests, get_static, put_static, make}
use Rattle.vm_heap.specs.declared.needing.Need.{Need}
use Rattle.vm_heap.specs.declared.needing.Need.TheVariants.{Get, Put, Make, Call}

-- what an instruction does once its class may be used
abbrev pub served : Linked → Frame → ℕ → Need → Heap → Shared
served k f class (Get n) = λ h. get_static h f class n
served k f class (Put n) = λ h. put_static k h f class n f.stack.values
served k f class Make = λ h. make k h f class
served k f class (Call effect) = λ h. rests h f effect
