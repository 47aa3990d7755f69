-- Instructions that need a class (JVMS 5.5, 6.5: getstatic, putstatic, new).
use Rattle.std.specs.Prelude.{ℕ, Option, Some, None}
use Rattle.cf_link.specs.declared.linked.Linked.{Linked}
use Rattle.cf_link.specs.declared.reference.LinkedRef.{LinkedRef}
use Rattle.cf_link.specs.declared.reference.LinkedRef.TheVariants as ref
use Rattle.vm_state.specs.declared.frame.Frame.{Frame}
use Rattle.vm_state.specs.declared.heap.Heap.{Heap}
use Rattle.vm_state.specs.declared.outcomes.HeapEffect.TheVariants.{Stuck}
use Rattle.vm_state.specs.declared.outcomes.StuckKind.TheVariants.{WrongKind}
use Rattle.vm_state.specs.Shared.{Shared, rests, needing, get_static, put_static, make}

-- getstatic of what its reference resolves to (JVMS 6.5)
abbrev pub gets_static : Linked → Heap → Frame → ℕ → Option LinkedRef → Shared
gets_static k h f thread (Some (ref.Static class n)) = needing k h f thread class (λ g. get_static g f class n)
gets_static k h f thread (Some _) = rests h f (Stuck WrongKind)
gets_static k h f thread None = rests h f (Stuck WrongKind)

-- putstatic of what its reference resolves to (JVMS 6.5)
abbrev pub puts_static : Linked → Heap → Frame → ℕ → Option LinkedRef → Shared
puts_static k h f thread (Some (ref.Static class n)) = needing k h f thread class (λ g. put_static k g f class n f.stack.values)
puts_static k h f thread (Some _) = rests h f (Stuck WrongKind)
puts_static k h f thread None = rests h f (Stuck WrongKind)

-- new of what its reference resolves to (JVMS 6.5)
abbrev pub makes : Linked → Heap → Frame → ℕ → Option LinkedRef → Shared
makes k h f thread (Some (ref.Class class)) = needing k h f thread class (λ g. make k g f class)
makes k h f thread (Some _) = rests h f (Stuck WrongKind)
makes k h f thread None = rests h f (Stuck WrongKind)
