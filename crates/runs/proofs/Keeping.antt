-- What the first state has and each step keeps holds of every state that a run comes to.
use Rattle.std.proofs.Common.{◌≡◌, ℕ, zero, suc, List, [], ◌∷◌, refl, subst}
use Rattle.runs.specs.declared.turn.Turn.{Turn}
use Rattle.runs.specs.System.{Next, Goes, Waits, Ended, Stuck, System, Reached, KeptBy, moved, tried, tries, run, reach, start}

module _ {Event Place A W : Type 0} (s : System Event Place A) (state : W → A) (kept : (w : W) (t : ℕ) (x : A) → s.next (state w) t ≡ Goes x → (v : W) × (state v ≡ x)) where
  -- a state that has it
  Has : Reached A → Type 0
  Has r = (w : W) × (state w ≡ r.state)

  after_try : (t : ℕ) (r : Reached A) (n : Next A) → s.next r.state t ≡ n → Has r → Has (moved r t (s.inits r.state t) n)
  unfolding Has
  after_try t r (Goes x) is h = kept h.0 t x (rw h.1 is)
  after_try t r Waits is h = h
  after_try t r Ended is h = h
  after_try t r Stuck is h = h

  after_tries : (t n : ℕ) (r : Reached A) → Has r → Has (tries s t n r)
  after_tries t zero r h = h
  after_tries t (suc n) r h = after_tries t n (tried s t r) (after_try t r (s.next r.state t) refl h)

  after_run : (turns : List Turn) (r : Reached A) → Has r → Has (run s turns r)
  after_run [] r h = h
  after_run (turn ∷ turns) r h = after_run turns (tries s turn.thread turn.count r) (after_tries turn.thread turn.count r h)

pub each_reached : {Event Place A W : Type 0} (s : System Event Place A) (state : W → A) (first : W) → state first ≡ s.first → ((w : W) (t : ℕ) (x : A) → s.next (state w) t ≡ Goes x → (v : W) × (state v ≡ x)) → (turns : List Turn) → (w : W) × (state w ≡ (reach s turns).state)
unfolding Has
each_reached s state first is kept turns = after_run s state kept turns (start s) (first, is)

-- the same for a predicate on states
pub kept_by_runs : {Event Place S : Type 0} (s : System Event Place S) (P : S → Type 0) → ((x : S) (t : ℕ) → P x → KeptBy P (s.next x t)) → P s.first → (turns : List Turn) → P (reach s turns).state
kept_by_runs {S = S} s P kept first turns =
    let last = each_reached {W = (x : S) × P x} s (λ w. w.0) (s.first, first) refl (λ w t x goes. ((x, subst (KeptBy P) goes (kept w.0 t w.1)), refl)) turns in
    subst P last.1 last.0.1
