-- A heap step by the instruction of its frame.
use Rattle.std.proofs.Common.{◌≡◌, ◌≢◌, List, [], ◌∷◌, drop, Option, None, Some, refl, sym, ap, ◌∙◌, subst}
use Rattle.std.specs.Prelude.{slice_get}
use Rattle.cf_form.specs.declared.instr.Instr.{Instr}
use Rattle.cf_link.specs.declared.linked.Linked.{Linked}
use Rattle.vm_heap.specs.Deeds.{deed, row_deed, fetched_deed, next_deed, settled_deed, DoesDeed, initialised_top, settled_top, top_of, ComesTop}
use Rattle.vm_state.specs.Actions.{action_of}
use Rattle.vm_state.specs.declared.action.Action.{Action}
use Rattle.vm_state.specs.declared.action.Action.TheVariants as act
use Rattle.vm_state.specs.declared.frame.Frame.{Frame}
use Rattle.vm_state.specs.declared.heap.Heap.{Heap}
use Rattle.vm_state.specs.declared.outcomes.HeapEffect.{HeapEffect}
use Rattle.vm_state.specs.declared.outcomes.HeapEffect.TheVariants.{Done, Waits, Stuck, Fail, Call, Initialise, Memory}
use Rattle.vm_native.specs.Acts.{Acts}
use Rattle.vm_state.specs.declared.thread.Thread.{Thread}
use Rattle.vm_state.specs.HeapStep.{IsHeapStep, enters_with, made_ready, settles, heap_acted, heap_row_acted, heap_fetched, heap_steps_in, heap_steps_among, heap_step, settles_by}
use Rattle.vm_state.specs.declared.heap.Init.TheVariants as init
use Rattle.vm_state.specs.declared.outcomes.HeapMove.{HeapMove}
use Rattle.vm_state.specs.Heaps.{with_init}
use Rattle.vm_state.specs.Local.{called}
use Rattle.vm_state.specs.Methods.{code_of, instr_at}
use Rattle.vm_state.specs.Shared.{Shared}

acted_is : (k : Linked) (h : Heap) (t : Thread) (f : Frame) (fs : List Frame) (i : Instr) (a : Action) → heap_acted k h t f fs i a ≡ settled_deed k h t f fs (deed k h f t.number i a)
acted_is k h t f fs i act.Nop = refl
acted_is k h t f fs i act.PushNull = refl
acted_is k h t f fs i (act.PushInt n) = refl
acted_is k h t f fs i (act.PushLong n) = refl
acted_is k h t f fs i act.PushOperand = refl
acted_is k h t f fs i act.PushConstant = refl
acted_is k h t f fs i (act.Load kind) = refl
acted_is k h t f fs i (act.LoadAt kind n) = refl
acted_is k h t f fs i (act.Store kind) = refl
acted_is k h t f fs i (act.StoreAt kind n) = refl
acted_is k h t f fs i (act.Pop units) = refl
acted_is k h t f fs i (act.Dup units under) = refl
acted_is k h t f fs i act.Swap = refl
acted_is k h t f fs i (act.Ints op) = refl
acted_is k h t f fs i (act.Longs op) = refl
acted_is k h t f fs i (act.LongShift op) = refl
acted_is k h t f fs i (act.IntDivide division) = refl
acted_is k h t f fs i (act.LongDivide division) = refl
acted_is k h t f fs i act.IntNegate = refl
acted_is k h t f fs i act.LongNegate = refl
acted_is k h t f fs i act.Increment = refl
acted_is k h t f fs i act.IntToLong = refl
acted_is k h t f fs i act.LongToInt = refl
acted_is k h t f fs i act.CompareLongs = refl
acted_is k h t f fs i (act.IfZero comparison) = refl
acted_is k h t f fs i (act.IfInts comparison) = refl
acted_is k h t f fs i (act.IfSame wanted) = refl
acted_is k h t f fs i (act.IfNull wanted) = refl
acted_is k h t f fs i act.Goto = refl
acted_is k h t f fs i (act.Give kind) = refl
acted_is k h t f fs i act.Leave = refl
acted_is k h t f fs i (act.AtHeap action) = refl
acted_is k h t f fs i (act.Invoke how) = refl
acted_is k h t f fs i act.Throw = refl
acted_is k h t f fs i act.CheckCast = refl
acted_is k h t f fs i act.InstanceOf = refl
acted_is k h t f fs i act.Wide = refl

row_is : (k : Linked) (h : Heap) (t : Thread) (f : Frame) (fs : List Frame) (i : Instr) (o : Option Action) → heap_row_acted k h t f fs i o ≡ settled_deed k h t f fs (row_deed k h f t.number i o)
row_is k h t f fs i None = refl
row_is k h t f fs i (Some a) = acted_is k h t f fs i a

fetched_is : (k : Linked) (h : Heap) (t : Thread) (f : Frame) (fs : List Frame) (o : Option Instr) → heap_fetched k h t f fs o ≡ settled_deed k h t f fs (fetched_deed k h f t.number o)
fetched_is k h t f fs None = refl
fetched_is k h t f fs (Some i) = row_is k h t f fs i (action_of i.op)

-- the step of a thread without an exception
pub step_is : (k : Linked) (h : Heap) (t : Thread) (f : Frame) (fs : List Frame) → t.frames ≡ f ∷ fs → t.thrown ≡ None → heap_step k h t ≡ settled_deed k h t f fs (next_deed k h f t.number)
step_is k h t f fs frames none =
    ap (heap_steps_among k h t) frames
    ∙ ap (heap_steps_in k h t f fs) none
    ∙ fetched_is k h t f fs (instr_at k f)

-- ---- what was done to the innermost frame

pub top_is : {A : Type 0} (xs : List A) (x : A) → slice_get xs 0 ≡ Some x → xs ≡ x ∷ drop 1 xs
top_is [] x is = absurd (cc)
top_is (y ∷ ys) x is = ap (λ z. z ∷ ys) (cc)

abbrev with_frames : Thread → List Frame → Thread
with_frames t fs = record t { frames = fs }

-- an effect that has changed nothing, by the whole thread
settled_is : (k : Linked) (h : Heap) (t : Thread) (f : Frame) (fs : List Frame) (a : Shared) (e : HeapEffect) → t.frames ≡ f ∷ fs
    → a.effect ≡ e → e ≢ Done → settles k h t f fs a ≡ settled_top k h t e
settled_is k h t f fs a Done frames is ne = absurd (ne refl)
settled_is k h t f fs a Waits frames is ne = ap (settles_by k h t f fs a.heap a.frame) is
settled_is k h t f fs a (Stuck kind) frames is ne = ap (settles_by k h t f fs a.heap a.frame) is
settled_is k h t f fs a (Fail class) frames is ne = ap (settles_by k h t f fs a.heap a.frame) is
settled_is k h t f fs a (Call target count) frames is ne =
    ap (settles_by k h t f fs a.heap a.frame) is
    ∙ sym (ap (λ l. enters_with h (made_ready h target.class) t (called t l target count (code_of k target.class target.method))) frames)
settled_is k h t f fs a (Initialise target) frames is ne =
    ap (settles_by k h t f fs a.heap a.frame) is
    ∙ sym (ap (λ l. enters_with h (with_init h target.class (init.Running t.number)) t (called t l target 0 (code_of k target.class target.method))) frames)
settled_is k h t f fs a Memory frames is ne = ap (settles_by k h t f fs a.heap a.frame) is

-- what holds of the old state holds of one that is the same
pub same_state : (P : Heap → Thread → Type 0) (h h' : Heap) (t t' : Thread) → h' ≡ h → t' ≡ t → P h t → P h' t'
same_state P h h' t t' eh et p = subst (λ x. P x t') (sym eh) (subst (P h) (sym et) p)

rests_top : (k : Linked) (h h' : Heap) (t : Thread) (f g : Frame) (fs : List Frame) (a : Shared) (e : HeapEffect) → t.frames ≡ f ∷ fs → e ≢ Done
    → heap_step k h t ≡ settles k h t f fs a → (e ≡ a.effect) × (h' ≡ h) × (g ≡ f)
    → (heap_step k h' (with_frames t (g ∷ fs)) ≡ settled_top k h' (with_frames t (g ∷ fs)) e) × (h' ≡ h) × (with_frames t (g ∷ fs) ≡ t)
rests_top k h h' t f g fs a e frames ne step is =
    let same : with_frames t (g ∷ fs) ≡ t = ap (λ x. with_frames t (x ∷ fs)) is.2 ∙ ap (with_frames t) (sym frames) in (
      same_state (λ x u. heap_step k x u ≡ settled_top k x u e) h h' t (with_frames t (g ∷ fs)) is.1 same (step ∙ settled_is k h t f fs a e frames (sym is.0) ne),
      is.1,
      same,
    )

some_top : (k : Linked) (h h' : Heap) (t : Thread) (f g : Frame) (fs : List Frame) (a : Shared) (e : HeapEffect) → t.frames ≡ f ∷ fs
    → heap_step k h t ≡ settles k h t f fs a → Acts a e h h' f g → ComesTop k h h' t (with_frames t (g ∷ fs)) (top_of (Some e))
some_top k h h' t f g fs a Done frames step is =
    let to = step ∙ ap (settles_by k h t f fs a.heap a.frame) (sym is.0) in
    (sym (ap (λ x. x.move) to), is.1 ∙ sym (ap (λ x. x.heap) to), ap (λ x. with_frames t (x ∷ fs)) is.2 ∙ sym (ap (λ x. x.thread) to))
some_top k h h' t f g fs a Memory frames step is = (is.0, ap (λ x. with_frames t (x ∷ fs)) is.1 ∙ ap (with_frames t) (sym frames))
some_top k h h' t f g fs a Waits frames step is = rests_top k h h' t f g fs a Waits frames (λ e. cc) step is
some_top k h h' t f g fs a (Stuck kind) frames step is = rests_top k h h' t f g fs a (Stuck kind) frames (λ e. cc) step is
some_top k h h' t f g fs a (Fail class) frames step is = rests_top k h h' t f g fs a (Fail class) frames (λ e. cc) step is
some_top k h h' t f g fs a (Call target count) frames step is = rests_top k h h' t f g fs a (Call target count) frames (λ e. cc) step is
some_top k h h' t f g fs a (Initialise target) frames step is = rests_top k h h' t f g fs a (Initialise target) frames (λ e. cc) step is

by_deed : (k : Linked) (h h' : Heap) (t : Thread) (f g : Frame) (fs : List Frame) (d : Option Shared) (r : Option HeapEffect) → t.frames ≡ f ∷ fs
    → heap_step k h t ≡ settled_deed k h t f fs d → DoesDeed d r h h' f g → ComesTop k h h' t (with_frames t (g ∷ fs)) (top_of r)
by_deed k h h' t f g fs (Some a) (Some e) frames step is = some_top k h h' t f g fs a e frames step is
by_deed k h h' t f g fs (Some a) None frames step is = absurd is
by_deed k h h' t f g fs None (Some e) frames step is = absurd is
by_deed k h h' t f g fs None None frames step is =
    let same : with_frames t (g ∷ fs) ≡ t = ap (λ x. with_frames t (x ∷ fs)) is.1 ∙ ap (with_frames t) (sym frames) in (
      same_state (λ x u. heap_step k x u ≡ initialised_top x u u.frames) h h' t (with_frames t (g ∷ fs)) is.0 same (step ∙ sym (ap (initialised_top h t) frames)),
      is.0,
      same,
    )

pub deed_comes : (k : Linked) (h h' : Heap) (t : Thread) (f g : Frame) (fs : List Frame) (r : Option HeapEffect)
    → t.frames ≡ f ∷ fs → t.thrown ≡ None → DoesDeed (next_deed k h f t.number) r h h' f g → ComesTop k h h' t (with_frames t (g ∷ fs)) (top_of r)
deed_comes k h h' t f g fs r frames none is = by_deed k h h' t f g fs (next_deed k h f t.number) r frames (step_is k h t f fs frames none) is

-- a step of one state is one of the same state
pub over : (k : Linked) (h h' h'' : Heap) (t t' t'' : Thread) (m : HeapMove) → h' ≡ h → t' ≡ t → IsHeapStep (heap_step k h' t') m h' h'' t' t'' → IsHeapStep (heap_step k h t) m h h'' t t''
over k h h' h'' t t' t'' m eh et is =
    subst (λ u. IsHeapStep (heap_step k h u) m h h'' u t'') et (subst (λ x. IsHeapStep (heap_step k x t') m x h'' t' t'') eh is)
