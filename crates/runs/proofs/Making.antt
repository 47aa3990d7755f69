-- Moves of one thread in a row.
use Rattle.std.proofs.Common.{◌≡◌, ◌≢◌, ℕ, suc, ◌+◌, ◌-◌, ◌<◌, ◌≤◌, List, [], ◌∷◌, ◌++◌, length, get_or, take, refl, sym, subst, arith, ap, ◌∙◌, ⊎_elim}
use Rattle.std.proofs.lemmas.Bool.{cases_lt}
use Rattle.std.proofs.lemmas.List.{take_more}
use Rattle.runs.specs.declared.turn.Turn.{Turn}
use Rattle.runs.specs.declared.next_step.NextStep.{NextStep}
use Rattle.runs.specs.declared.next_step.NextStep.TheVariants
use Rattle.runs.specs.System.{Next, Goes, Waits, Ended, Stuck, System, Reached, moved, tries, tried, run, reach, start}
use Rattle.runs.specs.Planned.{AreWhole, Moves}
use Rattle.runs.specs.Simulates.{Comes}
use Rattle.runs.specs.Trying.{able, after}
use Rattle.runs.specs.Made.{Made}
use Rattle.runs.proofs.Planning.{rests, one_more_same}
use Rattle.runs.proofs.Reaching.{went}
use Rattle.runs.proofs.Replaying.{tries-add, reach-append}

-- a thread that is told to move can
pub moves_told : {S : Type 0} (n : Next S) → able n ≡ TheVariants.Moves → Moves n
moves_told (Goes x) e = tt
moves_told Waits e = cc
moves_told Ended e = cc
moves_told Stuck e = cc

pub told_moves : {S : Type 0} (n : Next S) → Moves n → able n ≡ TheVariants.Moves
told_moves (Goes x) m = refl
told_moves Waits m = absurd m
told_moves Ended m = absurd m
told_moves Stuck m = absurd m

-- a thread that can't move leaves its state
pub stays : {S : Type 0} (x : S) (n : Next S) → (Moves n → ⊥) → after x n ≡ x
stays x (Goes y) idle = absurd (idle tt)
stays x Waits idle = refl
stays x Ended idle = refl
stays x Stuck idle = refl

-- a try leaves the state that it is to leave
state_moved : {S : Type 0} (r : Reached S) (t i : ℕ) (n : Next S) → (moved r t i n).state ≡ after r.state n
state_moved r t i (Goes y) = refl
state_moved r t i Waits = refl
state_moved r t i Ended = refl
state_moved r t i Stuck = refl

move_counts : {S : Type 0} (r : Reached S) (t i : ℕ) (n : Next S) → Moves n → (moved r t i n).moves t ≡ suc (r.moves t)
move_counts r t i (Goes y) m = one_more_same t r.moves
move_counts r t i Waits m = absurd m
move_counts r t i Ended m = absurd m
move_counts r t i Stuck m = absurd m

module _ {Event Place S : Type 0} (s : System Event Place S) (t : ℕ) where
  pub made_none : (x : S) → Made s t 0 x 0 x
  made_none x = record { within = omega arith; whole = λ r e. omega arith; state = λ r e. e; stops = λ lt m. absurd (omega arith) }

  -- one more move
  pub made_more : (x : S) (n : ℕ) (y z : S) (a : NextStep) → Made s t n x n y → a ≡ able (s.next y t) → a ≡ TheVariants.Moves → z ≡ after y (s.next y t) → Made s t (n + 1) x (n + 1) z
  made_more x n y z a h answer moves is = record {
    within = omega arith;
    whole = λ r e.
        let at : (tries s t n r).state ≡ y = h.state r e in
        let can : Moves (s.next (tries s t n r).state t) = rw at (moves_told (s.next y t) (sym answer ∙ moves)) in
        let more : (tried s t (tries s t n r)).moves t ≡ suc ((tries s t n r).moves t) = move_counts (tries s t n r) t (s.inits (tries s t n r).state t) (s.next (tries s t n r).state t) can in
        let all : (tries s t (n + 1) r).moves t ≡ (tried s t (tries s t n r)).moves t = ap (λ (q : Reached S). q.moves t) (tries-add s t n 1 r) in
        omega (arith, h.whole r e);
    state = λ r e.
        ap (λ (q : Reached S). q.state) (tries-add s t n 1 r)
        ∙ (state_moved (tries s t n r) t (s.inits (tries s t n r).state t) (s.next (tries s t n r).state t)
        ∙ (ap (λ w. after w (s.next w t)) (h.state r e) ∙ sym is));
    stops = λ lt m. absurd (omega arith);
  }

  -- no further move
  pub made_last : (count : ℕ) (x : S) (n : ℕ) (y z : S) (a : NextStep) → n < count → Made s t n x n y → a ≡ able (s.next y t) → a ≢ TheVariants.Moves → z ≡ after y (s.next y t) → Made s t count x n z
  made_last count x n y z a lt h answer other is =
      let idle : Moves (s.next y t) → ⊥ = λ m. other (answer ∙ told_moves (s.next y t) m) in
      let same : z ≡ y = is ∙ stays y (s.next y t) idle in
      record {
        within = omega arith;
        whole = h.whole;
        state = λ r e. h.state r e ∙ sym same;
        stops = λ below m. idle (subst (λ w. Moves (s.next w t)) same m);
      }

  -- all the tries together lead no further
  pub made_all : (count : ℕ) (x : S) (n : ℕ) (y : S) → Made s t count x n y → (r : Reached S) → r.state ≡ x → tries s t count r ≡ tries s t n r
  made_all count x n y h r e =
      let within = h.within in
      let sum : n + (count - n) ≡ count = omega arith in
      let split : tries s t count r ≡ tries s t (count - n) (tries s t n r) = ap (λ k. tries s t k r) (sym sum) ∙ tries-add s t n (count - n) r in
      split ∙ ⊎_elim
      (λ lt. rests s t (count - n) (tries s t n r) (λ m. h.stops lt (subst (λ w. Moves (s.next w t)) (h.state r e) m)))
      (λ ge. let none : count - n ≡ 0 = omega arith in rw none refl)
      (cases_lt n count)

-- a turn more of a run
pub run_more : {Event Place S : Type 0} (s : System Event Place S) (turns : List Turn) (i n : ℕ) (x y : S) (d : Turn) → i < length turns → x ≡ (reach s (take i turns)).state → Made s (get_or turns i d).thread (get_or turns i d).count x n y → y ≡ (reach s (take (i + 1) turns)).state
run_more s turns i n x y d lt at h =
    let turn = get_or turns i d in
    let r = reach s (take i turns) in
    sym (ap (λ xs. (reach s xs).state) (take_more turns i d lt)
    ∙ (ap (λ (q : Reached _). q.state) (reach-append s (take i turns) (turn ∷ []) ∙ made_all s turn.thread turn.count x n y h r (sym at))
    ∙ h.state r (sym at)))

-- moves that lead from x to y are what tries make
pub comes_made : {Event Place S : Type 0} (s : System Event Place S) (t n i count : ℕ) (x y : S) → Comes s t n i x y → n ≤ count → (n < count → Moves (s.next y t) → ⊥) → Made s t count x n y
comes_made s t n i count x y comes within stops = record {
  within = within;
  whole = λ r e. (went s t n i r y (subst (λ z. Comes s t n i z y) (sym e) comes)).same;
  state = λ r e. (went s t n i r y (subst (λ z. Comes s t n i z y) (sym e) comes)).state;
  stops = stops;
}

pub whole_append : {Event Place S : Type 0} (s : System Event Place S) (xs ys : List Turn) (r : Reached S) → AreWhole s r xs → AreWhole s (run s xs r) ys → AreWhole s r (xs ++ ys)
whole_append s [] ys r h k = k
whole_append s (x ∷ xs) ys r h k = (h.0, h.1, whole_append s xs ys (tries s x.thread x.count r) h.2 k)

-- a history that a turn goes on
pub history_more : {Event Place S : Type 0} (s : System Event Place S) (history : List Turn) (t count n : ℕ) (x y : S) → AreWhole s (start s) history → (reach s history).state ≡ x → Made s t count x n y → 0 < n → ((reach s (history ++ record { thread = t; count = n } ∷ [])).state ≡ y) × AreWhole s (start s) (history ++ record { thread = t; count = n } ∷ [])
history_more s history t count n x y whole at made pos = (
  ap (λ (r : Reached _). r.state) (reach-append s history (record { thread = t; count = n } ∷ [])) ∙ made.state (reach s history) at,
  whole_append s history (record { thread = t; count = n } ∷ []) (start s) whole (pos, made.whole (reach s history) at, tt),
)
