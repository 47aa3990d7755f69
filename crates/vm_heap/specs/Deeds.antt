-- What the instruction of a frame does where it touches what threads share, apart from its thread.
use Rattle.std.specs.Prelude.{◌≡◌, ℕ, List, [], ◌∷◌, Option, Some, None}
use Rattle.cf_form.specs.declared.instr.Instr.{Instr}
use Rattle.cf_link.specs.declared.linked.Linked.{Linked}
use Rattle.cf_link.specs.declared.built_in.TheConstants.{ARITHMETIC_EXCEPTION, NULL_POINTER_EXCEPTION, CLASS_CAST_EXCEPTION}
use Rattle.vm_heap.specs.declared.stepping.Top.{Top}
use Rattle.vm_heap.specs.declared.stepping.Top.TheVariants as top
use Rattle.vm_native.specs.Acts.{Acts}
use Rattle.vm_state.specs.declared.action.Action.{Action}
use Rattle.vm_state.specs.declared.action.Action.TheVariants as act
use Rattle.vm_state.specs.declared.frame.Frame.{Frame}
use Rattle.vm_state.specs.declared.heap.Heap.{Heap}
use Rattle.vm_state.specs.declared.outcomes.HeapEffect.{HeapEffect}
use Rattle.vm_state.specs.declared.outcomes.HeapEffect.TheVariants as effect
use Rattle.vm_state.specs.declared.outcomes.HeapMove.TheVariants.{Moved, Waits, Stuck, Memory}
use Rattle.vm_state.specs.declared.outcomes.StuckKind.TheVariants.{PcOut}
use Rattle.vm_state.specs.declared.thread.Thread.{Thread}
use Rattle.vm_state.specs.Actions.{action_of}
use Rattle.vm_state.specs.HeapStep.{HeapAfter, IsHeapStep, halts, goes_to, fails, enters_with, made_ready, shares, invokes, settles, initialised, heap_step}
use Rattle.vm_state.specs.declared.heap.Init.TheVariants as init
use Rattle.vm_state.specs.Heaps.{with_init}
use Rattle.vm_state.specs.Local.{called}
use Rattle.vm_state.specs.Methods.{code_of, instr_at, ref_at}
use Rattle.vm_state.specs.Shared.{Shared, rests, if_same_texts}

-- one instruction; None where it ends the initialiser of a class
abbrev pub deed : Linked → Heap → Frame → ℕ → Instr → Action → Option Shared
deed k h f thread i (act.AtHeap a) = Some (shares k h f thread (ref_at k f.class i.a) a)
deed k h f thread i (act.Invoke how) = Some (invokes k h f thread how (ref_at k f.class i.a))
deed k h f thread i (act.IfSame wanted) = Some (if_same_texts h f wanted i.a f.stack.values)
deed k h f thread i (act.IntDivide division) = Some (rests h f (effect.Fail ARITHMETIC_EXCEPTION))
deed k h f thread i (act.LongDivide division) = Some (rests h f (effect.Fail ARITHMETIC_EXCEPTION))
deed k h f thread i act.Throw = Some (rests h f (effect.Fail NULL_POINTER_EXCEPTION))
deed k h f thread i act.CheckCast = Some (rests h f (effect.Fail CLASS_CAST_EXCEPTION))
deed k h f thread i (act.Give kind) = None
deed k h f thread i act.Leave = None
deed k h f thread i _ = Some (rests h f (effect.Stuck PcOut))

abbrev pub row_deed : Linked → Heap → Frame → ℕ → Instr → Option Action → Option Shared
row_deed k h f thread i None = Some (rests h f (effect.Stuck PcOut))
row_deed k h f thread i (Some action) = deed k h f thread i action

abbrev pub fetched_deed : Linked → Heap → Frame → ℕ → Option Instr → Option Shared
fetched_deed k h f thread None = Some (rests h f (effect.Stuck PcOut))
fetched_deed k h f thread (Some i) = row_deed k h f thread i (action_of i.op)

-- the next instruction of a frame
abbrev pub next_deed : Linked → Heap → Frame → ℕ → Option Shared
next_deed k h f thread = fetched_deed k h f thread (instr_at k f)

-- the code did this
abbrev pub DoesDeed : Option Shared → Option HeapEffect → Heap → Heap → Frame → Frame → Type 0
DoesDeed (Some a) (Some e) h h' f f' = Acts a e h h' f f'
DoesDeed None None h h' f f' = (h' ≡ h) × (f' ≡ f)
DoesDeed _ _ h h' f f' = ⊥

-- what it does to the thread
abbrev pub settled_deed : Linked → Heap → Thread → Frame → List Frame → Option Shared → HeapAfter
settled_deed k h t f fs (Some a) = settles k h t f fs a
settled_deed k h t f fs None = initialised h t f fs

-- ---- the innermost frame of a thread

abbrev pub initialised_top : Heap → Thread → List Frame → HeapAfter
initialised_top h t [] = halts h t (Stuck PcOut)
initialised_top h t (f ∷ fs) = initialised h t f fs

-- what an effect does to the thread that has changed nothing so far
abbrev pub settled_top : Linked → Heap → Thread → HeapEffect → HeapAfter
settled_top k h t effect.Done = goes_to h t
settled_top k h t effect.Waits = halts h t Waits
settled_top k h t (effect.Stuck kind) = halts h t (Stuck kind)
settled_top k h t (effect.Fail class) = fails k h t class
settled_top k h t (effect.Call target count) =
    enters_with h (made_ready h target.class) t (called t t.frames target count (code_of k target.class target.method))
settled_top k h t (effect.Initialise target) =
    enters_with h (with_init h target.class (init.Running t.number)) t (called t t.frames target 0 (code_of k target.class target.method))
settled_top k h t effect.Memory = halts h t Memory

-- what was done to the innermost frame, by what the instruction did
abbrev pub top_of : Option HeapEffect → Top
top_of None = top.Ends
top_of (Some effect.Done) = top.Moved
top_of (Some effect.Memory) = top.Memory
top_of (Some e) = top.Rests e

-- the step is made, or memory is lacking, or nothing is changed so far and the step is what follows
abbrev pub ComesTop : Linked → Heap → Heap → Thread → Thread → Top → Type 0
ComesTop k h h' t t' top.Moved = IsHeapStep (heap_step k h t) Moved h h' t t'
ComesTop k h h' t t' top.Memory = IsHeapStep (heap_step k h t) Memory h h' t t'
ComesTop k h h' t t' top.Ends = (heap_step k h' t' ≡ initialised_top h' t' t'.frames) × (h' ≡ h) × (t' ≡ t)
ComesTop k h h' t t' (top.Rests e) = (heap_step k h' t' ≡ settled_top k h' t' e) × (h' ≡ h) × (t' ≡ t)
