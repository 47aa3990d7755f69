-- A class without an initialiser isn't initialised yet.
use Rattle.std.proofs.Common.{◌≡◌, ℕ, Bool, true, false, Option, None, Some, refl}
use Rattle.std.specs.Prelude.{nat_eq, if◌then◌else◌}
use Rattle.cf_link.specs.declared.linked.Linked.{Linked}
use Rattle.vm_state.specs.declared.heap.Init.{Init}
use Rattle.vm_state.specs.declared.heap.Init.TheVariants as init
use Rattle.vm_state.specs.declared.outcomes.Readiness.{Readiness}
use Rattle.vm_state.specs.declared.outcomes.Readiness.TheVariants.{Usable, Fresh, Busy}
use Rattle.vm_state.specs.Shared.{readiness}

not_running : (same : Bool) (o : Option Init) → (if same then Usable else Busy) ≡ Fresh → o ≡ Some init.NotYet
not_running true o e = absurd (cc)
not_running false o e = absurd (cc)

pub fresh_not_yet : (k : Linked) (thread class : ℕ) (o : Option Init) → readiness k thread class o ≡ Fresh → o ≡ Some init.NotYet
fresh_not_yet k thread class None e = absurd (cc)
fresh_not_yet k thread class (Some init.NotYet) e = refl
fresh_not_yet k thread class (Some (init.Running other)) e = not_running (nat_eq other thread) (Some (init.Running other)) e
fresh_not_yet k thread class (Some init.Ready) e = absurd (cc)
fresh_not_yet k thread class (Some init.Bad) e = absurd (cc)
