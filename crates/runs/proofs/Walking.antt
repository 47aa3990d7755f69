-- What a walk over the threads finds.
use Rattle.std.proofs.Common.{◌≡◌, ◌≢◌, ℕ, ◌+◌, ◌<◌, ◌≤◌, Bool, true, false, refl, sym, subst, arith, ap, ◌∙◌, ⊎_elim, inl, inr, true≢false}
use Rattle.std.proofs.lemmas.Bool.{cases_lt, cases_eq}
use Rattle.runs.specs.declared.next_step.NextStep.{NextStep}
use Rattle.runs.specs.declared.next_step.NextStep.TheVariants
use Rattle.runs.specs.System.{AbsentHaveEnded, Next, Goes, Waits, Ended, Stuck, System}
use Rattle.runs.specs.Planned.{Moves, NoneMoves, IsStuck}
use Rattle.runs.specs.Trying.{able}
use Rattle.runs.specs.Ends.{SomeMoves, NoneStuck}
use Rattle.runs.proofs.Making.{told_moves}

-- what a thread does next, where it is told
pub told_stuck : {S : Type 0} (n : Next S) → TheVariants.Stuck ≡ able n → IsStuck n
told_stuck (Goes x) e = cc
told_stuck Waits e = cc
told_stuck Ended e = cc
told_stuck Stuck e = tt

pub told_waits : {S : Type 0} (n : Next S) → TheVariants.Waits ≡ able n → n ≡ Waits
told_waits (Goes x) e = cc
told_waits Waits e = refl
told_waits Ended e = cc
told_waits Stuck e = cc

pub told_ended : {S : Type 0} (n : Next S) → TheVariants.Ended ≡ able n → n ≡ Ended
told_ended (Goes x) e = cc
told_ended Waits e = cc
told_ended Ended e = refl
told_ended Stuck e = cc

pub stuck_told : {S : Type 0} (n : Next S) → IsStuck n → able n ≡ TheVariants.Stuck
stuck_told (Goes x) e = absurd e
stuck_told Waits e = absurd e
stuck_told Ended e = absurd e
stuck_told Stuck e = refl

pub moves_told : {S : Type 0} (n : Next S) → TheVariants.Moves ≡ able n → Moves n
moves_told (Goes x) e = tt
moves_told Waits e = cc
moves_told Ended e = cc
moves_told Stuck e = cc

-- none of the first k threads does so, or one does
record Seen {Event Place S : Type 0} (s : System Event Place S) (x : S) (can : NextStep) (k : ℕ) (seen : Bool) : Type 0 where
  some : seen ≡ true → (t : ℕ) × (able (s.next x t) ≡ can)
  none : seen ≡ false → (t : ℕ) → 1 ≤ t → t ≤ k → able (s.next x t) ≢ can

-- what was found among the first k threads
pub record Walked {Event Place S : Type 0} (s : System Event Place S) (x : S) (k : ℕ) (moves waits : Bool) : Type 0 where
  pub stuck : (t : ℕ) → 1 ≤ t → t ≤ k → able (s.next x t) ≢ TheVariants.Stuck
  moving : Seen s x TheVariants.Moves k moves
  waiting : Seen s x TheVariants.Waits k waits

module _ {Event Place S : Type 0} (s : System Event Place S) (x : S) where
  -- one thread more that doesn't do so
  misses : (can : NextStep) (k : ℕ) → ((t : ℕ) → 1 ≤ t → t ≤ k → able (s.next x t) ≢ can) → able (s.next x (k + 1)) ≢ can → (t : ℕ) → 1 ≤ t → t ≤ k + 1 → able (s.next x t) ≢ can
  misses can k none other t low high =
      ⊎_elim
      (λ e. subst (λ u. able (s.next x u) ≢ can) (sym e) other)
      (λ ne. none t low (omega arith))
      (cases_eq t (k + 1))

  seen_other : (can : NextStep) (k : ℕ) (seen : Bool) → Seen s x can k seen → able (s.next x (k + 1)) ≢ can → Seen s x can (k + 1) seen
  seen_other can k seen h other = record { some = h.some; none = λ e. misses can k (h.none e) other }

  seen_here : (can : NextStep) (k : ℕ) → able (s.next x (k + 1)) ≡ can → Seen s x can (k + 1) true
  seen_here can k e = record { some = λ _. (k + 1, e); none = λ f. absurd (true≢false f) }

  unseen : (can : NextStep) → Seen s x can 0 false
  unseen can = record { some = λ e. absurd (true≢false (sym e)); none = λ e t low high. absurd (omega arith) }

  pub walked_none : Walked s x 0 false false
  walked_none = record { stuck = λ t low high. absurd (omega arith); moving = unseen TheVariants.Moves; waiting = unseen TheVariants.Waits }

  differs : (a b c : NextStep) → a ≡ b → b ≢ c → a ≢ c
  differs a b c e ne f = ne (sym e ∙ f)

  pub walked_moves : (k : ℕ) (m w : Bool) → Walked s x k m w → able (s.next x (k + 1)) ≡ TheVariants.Moves → Walked s x (k + 1) true w
  walked_moves k m w h e = record {
    stuck = misses TheVariants.Stuck k h.stuck (differs _ _ _ e (λ f. cc));
    moving = seen_here TheVariants.Moves k e;
    waiting = seen_other TheVariants.Waits k w h.waiting (differs _ _ _ e (λ f. cc));
  }

  pub walked_waits : (k : ℕ) (m w : Bool) → Walked s x k m w → able (s.next x (k + 1)) ≡ TheVariants.Waits → Walked s x (k + 1) m true
  walked_waits k m w h e = record {
    stuck = misses TheVariants.Stuck k h.stuck (differs _ _ _ e (λ f. cc));
    moving = seen_other TheVariants.Moves k m h.moving (differs _ _ _ e (λ f. cc));
    waiting = seen_here TheVariants.Waits k e;
  }

  pub walked_ended : (k : ℕ) (m w : Bool) → Walked s x k m w → able (s.next x (k + 1)) ≡ TheVariants.Ended → Walked s x (k + 1) m w
  walked_ended k m w h e = record {
    stuck = misses TheVariants.Stuck k h.stuck (differs _ _ _ e (λ f. cc));
    moving = seen_other TheVariants.Moves k m h.moving (differs _ _ _ e (λ f. cc));
    waiting = seen_other TheVariants.Waits k w h.waiting (differs _ _ _ e (λ f. cc));
  }

  -- none of all numbers does so, where none of the threads does and others have ended
  everywhere : (can : NextStep) (n : ℕ) → can ≢ TheVariants.Ended → AbsentHaveEnded s x → n ≡ s.threads x → ((t : ℕ) → 1 ≤ t → t ≤ n → able (s.next x t) ≢ can) → (t : ℕ) → able (s.next x t) ≢ can
  everywhere can n ne others is none t =
      ⊎_elim
      (λ zero_. λ e. ne (sym e ∙ ap able (others t (inl (omega arith)))))
      (λ pos. ⊎_elim
      (λ past. λ e. ne (sym e ∙ ap able (others t (inr (omega arith)))))
      (λ within. none t pos within)
      (cases_lt n t))
      (cases_lt t 1)

  pub none_stuck : (n : ℕ) (m w : Bool) → Walked s x n m w → AbsentHaveEnded s x → n ≡ s.threads x → NoneStuck s x
  none_stuck n m w h others is t stuck = everywhere TheVariants.Stuck n (λ e. cc) others is h.stuck t (stuck_told (s.next x t) stuck)

  pub some_moves : (n : ℕ) (m w : Bool) → Walked s x n m w → m ≡ true → SomeMoves s x
  some_moves n m w h is = let found = h.moving.some is in (found.0, moves_told (s.next x found.0) (sym found.1))

  pub none_moves : (n : ℕ) (m w : Bool) → Walked s x n m w → m ≡ false → AbsentHaveEnded s x → n ≡ s.threads x → NoneMoves s x
  none_moves n m w h unseen_moves others is t moves = everywhere TheVariants.Moves n (λ e. cc) others is (h.moving.none unseen_moves) t (told_moves (s.next x t) moves)

  pub some_waits : (n : ℕ) (m w : Bool) → Walked s x n m w → w ≡ true → (t : ℕ) × (s.next x t ≡ Waits)
  some_waits n m w h is = let found = h.waiting.some is in (found.0, told_waits (s.next x found.0) (sym found.1))

  must_have_ended : (n : Next S) → able n ≢ TheVariants.Stuck → able n ≢ TheVariants.Moves → able n ≢ TheVariants.Waits → n ≡ Ended
  must_have_ended (Goes y) stuck moves waits = absurd (moves refl)
  must_have_ended Waits stuck moves waits = absurd (waits refl)
  must_have_ended Ended stuck moves waits = refl
  must_have_ended Stuck stuck moves waits = absurd (stuck refl)

  pub all_ended : (n : ℕ) (m w : Bool) → Walked s x n m w → m ≡ false → w ≡ false → AbsentHaveEnded s x → n ≡ s.threads x → (t : ℕ) → s.next x t ≡ Ended
  all_ended n m w h no_moves no_waits others is t = must_have_ended (s.next x t)
      (everywhere TheVariants.Stuck n (λ e. cc) others is h.stuck t)
      (everywhere TheVariants.Moves n (λ e. cc) others is (h.moving.none no_moves) t)
      (everywhere TheVariants.Waits n (λ e. cc) others is (h.waiting.none no_waits) t)

  -- no thread below the first that is stuck is stuck
  pub none_below : (k : ℕ) (m w : Bool) → Walked s x k m w → AbsentHaveEnded s x → (u : ℕ) → u < k + 1 → IsStuck (s.next x u) → ⊥
  none_below k m w h others u lt stuck =
      let told = stuck_told (s.next x u) stuck in
      ⊎_elim
      (λ none. let e : able (s.next x u) ≡ TheVariants.Ended = ap able (others u (inl (omega arith))) in let f : TheVariants.Ended ≡ TheVariants.Stuck = sym e ∙ told in cc)
      (λ pos. h.stuck u pos (omega arith) told)
      (cases_lt u 1)
