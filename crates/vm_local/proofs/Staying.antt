-- Instructions that stay in the innermost frame are local steps of its thread.
use Rattle.std.proofs.Common.{◌≡◌, ℕ, zero, suc, List, ◌∷◌, None, ap, ◌∙◌}
use Rattle.cf_link.specs.declared.linked.Linked.{Linked}
use Rattle.vm_state.specs.declared.frame.Frame.{Frame}
use Rattle.vm_state.specs.declared.thread.Thread.{Thread}
use Rattle.vm_state.specs.declared.outcomes.Effect.TheVariants.{Done}
use Rattle.vm_state.specs.Local.{instructed, settled, steps_in, local_step, moves}
use Rattle.vm_local.specs.Batches.{after, AllStay, locals_after, AllLocal}

abbrev pub with_frames : Thread → List Frame → Thread
with_frames t fs = record t { frames = fs }

one : (k : Linked) (t : Thread) (g : Frame) (fs : List Frame) → t.thrown ≡ None → (instructed k g).effect ≡ Done → local_step k (with_frames t (g ∷ fs)) ≡ moves (with_frames t (g ∷ fs)) ((instructed k g).frame ∷ fs)
one k t g fs none done =
    ap (steps_in k (with_frames t (g ∷ fs)) g fs) none
    ∙ ap (settled k (with_frames t (g ∷ fs)) fs (instructed k g).frame) done

pub frames_run : (k : Linked) (n : ℕ) (t : Thread) (f : Frame) (fs : List Frame) → t.frames ≡ f ∷ fs → t.thrown ≡ None → AllStay k n f → (locals_after k n t ≡ record t { frames = after k n f ∷ fs }) × AllLocal k n t
frames_run k zero t f fs e none stay = (ap (with_frames t) e, tt)
frames_run k (suc n) t f fs e none stay =
    let before = frames_run k n t f fs e none stay.0 in
    let step = ap (local_step k) before.0 ∙ one k t (after k n f) fs none stay.1 in
    (ap (λ a. a.thread) step, (before.1, ap (λ a. a.step) step))
