-- Many instructions of one frame, and many local steps of a thread.
use Rattle.std.specs.Prelude.{◌≡◌, ℕ, zero, suc, ◌+◌, ◌<◌, List, [], ◌∷◌, Option, Some, None}
use Rattle.cf_link.specs.declared.linked.Linked.{Linked}
use Rattle.vm_state.specs.declared.frame.Frame.{Frame}
use Rattle.vm_state.specs.declared.thread.Thread.{Thread}
use Rattle.vm_state.specs.declared.outcomes.Effect.{Effect}
use Rattle.vm_state.specs.declared.outcomes.Effect.TheVariants.{Done}
use Rattle.vm_state.specs.declared.outcomes.LocalStep.{LocalStep}
use Rattle.vm_state.specs.declared.outcomes.LocalStep.TheVariants.{Stepped, Ended, Memory}
use Rattle.cf_form.specs.declared.code.Code.{Code}
use Rattle.vm_state.specs.Methods.{code_of}
use Rattle.vm_state.specs.Local.{instructed, LocalAfter, stays, settled, local_step}

-- the frame after n instructions, as long as they stay in it
abbrev pub after : Linked → ℕ → Frame → Frame
after k zero f = f
after k (suc n) f = (instructed k (after k n f)).frame

-- each of the first n stays in it
abbrev pub AllStay : Linked → ℕ → Frame → Type 0
AllStay k zero f = Unit {0}
AllStay k (suc n) f = AllStay k n f × ((instructed k (after k n f)).effect ≡ Done)

-- all instructions were made, or fewer where the next one leaves the frame
abbrev pub IsCut : Option Effect → ℕ → ℕ → Type 0
IsCut None count most = count ≡ most
IsCut (Some e) count most = count < most

-- the next instruction leaves the frame so, where it does
abbrev pub Leaves : Linked → Frame → Option Effect → Type 0
Leaves k f None = Unit {0}
Leaves k f (Some e) = ((instructed k f).effect ≡ e) × ((instructed k f).frame ≡ f)

-- the thread after n local steps
abbrev pub locals_after : Linked → ℕ → Thread → Thread
locals_after k zero t = t
locals_after k (suc n) t = (local_step k (locals_after k n t)).thread

-- the first n steps are local, and are made
abbrev pub AllLocal : Linked → ℕ → Thread → Type 0
AllLocal k zero t = Unit {0}
AllLocal k (suc n) t = AllLocal k n t × ((local_step k (locals_after k n t)).step ≡ Stepped)

-- the code of the innermost frame
abbrev pub top_code : Linked → List Frame → Option Code
top_code k [] = None
top_code k (f ∷ fs) = code_of k f.class f.method

-- ---- a step that leaves the frame

-- what an effect of the innermost frame does to its thread
abbrev pub settled_top : Linked → Thread → List Frame → Effect → LocalAfter
settled_top k t [] e = stays t Ended
settled_top k t (f ∷ fs) e = settled k t fs f e

-- the thread's next step is what this effect does, where it leaves the frame
abbrev pub LeavesTop : Linked → Thread → Option Effect → Type 0
LeavesTop k t None = Unit {0}
LeavesTop k t (Some e) = local_step k t ≡ settled_top k t t.frames e

-- so many steps, and one more where it was made
abbrev pub counted : ℕ → LocalStep → ℕ
counted count Stepped = count + 1
counted count _ = count

-- what the thread's next step is; that of a step which was made, or lacked memory, isn't told
abbrev pub Tells : Linked → Thread → LocalStep → Type 0
Tells k t Stepped = Unit {0}
Tells k t Memory = Unit {0}
Tells k t s = s ≡ (local_step k t).step
