-- A step that leaves the innermost frame.
use Rattle.std.proofs.Common.{◌≡◌, ℕ, suc, ◌+◌, ◌≤◌, List, [], ◌∷◌, Option, None, Some, drop, sym, ap, ◌∙◌, add-one, arith}
use Rattle.std.specs.Prelude.{slice_get}
use Rattle.cf_link.specs.declared.linked.Linked.{Linked}
use Rattle.vm_state.specs.declared.frame.Frame.{Frame}
use Rattle.vm_state.specs.declared.thread.Thread.{Thread}
use Rattle.vm_state.specs.declared.outcomes.Effect.{Effect}
use Rattle.vm_state.specs.declared.outcomes.LocalStep.{LocalStep}
use Rattle.vm_state.specs.declared.outcomes.LocalStep.TheVariants.{Stepped, AtHeap, Ended, Stuck, Memory}
use Rattle.vm_state.specs.Local.{IsLocal, instructed, settled, steps_in, steps_among, local_step}
use Rattle.vm_local.specs.Batches.{Leaves, LeavesTop, settled_top, AllLocal, locals_after, Tells, counted}

pub top_is : {A : Type 0} (xs : List A) (x : A) → slice_get xs 0 ≡ Some x → xs ≡ x ∷ drop 1 xs
top_is [] x is = absurd (cc)
top_is (y ∷ ys) x is = ap (λ z. z ∷ ys) (cc)

next_is : (k : Linked) (t : Thread) (g : Frame) (fs : List Frame) (e : Effect) → t.frames ≡ g ∷ fs → t.thrown ≡ None → ((instructed k g).effect ≡ e) × ((instructed k g).frame ≡ g) → local_step k t ≡ settled_top k t t.frames e
next_is k t g fs e frames none leaves =
    ap (steps_among k t) frames
    ∙ ap (steps_in k t g fs) none
    ∙ ap (λ h. settled k t fs h (instructed k g).effect) leaves.1
    ∙ ap (settled k t fs g) leaves.0
    ∙ sym (ap (λ l. settled_top k t l e) frames)

pub leaves_top : (k : Linked) (t : Thread) (g : Frame) (fs : List Frame) (left : Option Effect) → t.frames ≡ g ∷ fs → t.thrown ≡ None → Leaves k g left → LeavesTop k t left
leaves_top k t g fs None frames none leaves = tt
leaves_top k t g fs (Some e) frames none leaves = next_is k t g fs e frames none leaves

pub record More (k : Linked) (n : ℕ) (before new : Thread) (step : LocalStep) : Type 0 where
  pub all : AllLocal k (counted n step) before
  pub thread : new ≡ locals_after k (counted n step) before
  pub next : Tells k new step

-- a batch, and the step that ends it
pub one_more : (k : Linked) (n : ℕ) (before old new : Thread) (step : LocalStep) → AllLocal k n before → old ≡ locals_after k n before → IsLocal (local_step k old) step old new → More k n before new step
one_more k n before old new Stepped all is l =
    let made : AllLocal k (suc n) before = (all, ap (λ t. (local_step k t).step) (sym is) ∙ sym l.0) in
    let left : new ≡ locals_after k (suc n) before = l.1 ∙ ap (λ t. (local_step k t).thread) is in
    record { all = rw add-one made; thread = rw add-one left; next = tt }
one_more k n before old new Memory all is l = record { all = all; thread = l ∙ is; next = tt }
one_more k n before old new AtHeap all is l = record { all = all; thread = l.2 ∙ is; next = l.0 ∙ ap (λ t. (local_step k t).step) (sym l.2) }
one_more k n before old new Ended all is l = record { all = all; thread = l.2 ∙ is; next = l.0 ∙ ap (λ t. (local_step k t).step) (sym l.2) }
one_more k n before old new (Stuck kind) all is l = record { all = all; thread = l.2 ∙ is; next = l.0 ∙ ap (λ t. (local_step k t).step) (sym l.2) }

pub counted_few : (n : ℕ) (step : LocalStep) → counted n step ≤ n + 1
counted_few n Stepped = omega arith
counted_few n Memory = omega arith
counted_few n AtHeap = omega arith
counted_few n Ended = omega arith
counted_few n (Stuck kind) = omega arith
