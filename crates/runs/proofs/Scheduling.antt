-- Every plan has a schedule, where a thread that isn't there has ended.
use Rattle.std.proofs.Common.{◌≡◌, ℕ, zero, suc, ◌+◌, ◌-◌, ◌*◌, ◌/◌, ◌%◌, ◌<◌, ◌≤◌, min, List, [], ◌∷◌, ◌++◌, length, Option, None, Some, ◌⊎◌, ⊎_elim, inl, inr, refl, sym, subst, arith, ap, div-add-mod'}
use Rattle.std.proofs.lemmas.Bool.{cases_lt}
use Rattle.std.proofs.lemmas.Nat.{mod-mul-add, mod_below}
use Rattle.runs.specs.declared.turn.Turn.{Turn}
use Rattle.runs.specs.System.{AbsentHaveEnded, IsAbsent, Next, Goes, Waits, Ended, Stuck, System, Reached, moved, tries, run, reach, start}
use Rattle.runs.specs.Planned.{Moves, IsStuck, Rests, IsOver, IsHalted, IsNext, IsTaken, in_circle, ComesNext, cut, kept, Ahead, GivenTurn, Round, given_from, at_first, Allows, Over, Absent, Halted, Then, Plan, RoundRobin, Given, Planned, HasQuantum}
use Rattle.runs.proofs.Determined.{moves_rests}
use Rattle.runs.proofs.Planning.{moves_rise, one_more_same, rests}
use Rattle.runs.proofs.Searching.{Decided, Throughout, FirstFailing, all_or_first}

moves_or_not : {S : Type 0} (n : Next S) → Decided (Moves n)
moves_or_not (Goes x) = inl tt
moves_or_not Waits = inr (λ m. m)
moves_or_not Ended = inr (λ m. m)
moves_or_not Stuck = inr (λ m. m)

stuck_or_not : {S : Type 0} (n : Next S) → Decided (IsStuck n)
stuck_or_not (Goes x) = inr (λ m. m)
stuck_or_not Waits = inr (λ m. m)
stuck_or_not Ended = inr (λ m. m)
stuck_or_not Stuck = inl tt

rests_or_not : {S : Type 0} (n : Next S) → Decided (Rests n)
rests_or_not (Goes x) = inr (λ m. m)
rests_or_not Waits = inl tt
rests_or_not Ended = inl tt
rests_or_not Stuck = inr (λ m. m)

idle_or_not : {S : Type 0} (n : Next S) → Decided (Moves n → ⊥)
idle_or_not n = ⊎_elim (λ m. inr (λ idle. idle m)) inl (moves_or_not n)

less_or_not : (a b : ℕ) → Decided (a < b)
less_or_not a b = ⊎_elim inl (λ ge. inr (λ lt. absurd (omega arith))) (cases_lt a b)

both_or_not : {P Q : Type 0} → Decided P → Decided Q → Decided (P × Q)
both_or_not (inl p) (inl q) = inl (p, q)
both_or_not (inl p) (inr no_q) = inr (λ b. no_q b.1)
both_or_not (inr no_p) q = inr (λ b. no_p b.0)

-- what doesn't rest can move or is stuck
pub moves_or_stuck : {S : Type 0} (n : Next S) → (Rests n → ⊥) → Moves n ⊎ IsStuck n
moves_or_stuck (Goes x) busy = inl tt
moves_or_stuck Waits busy = absurd (busy tt)
moves_or_stuck Ended busy = absurd (busy tt)
moves_or_stuck Stuck busy = inr tt

-- where k circles and u - 1 more threads are passed, u is next
lands_on : (n k u place : ℕ) → 1 ≤ u → u ≤ n → place ≡ k * n + (u - 1) → u ≡ place % n + 1
lands_on n k u place pos le e =
    let low : (k * n + (u - 1)) % n ≡ u - 1 = mod-mul-add k n (u - 1) (omega arith) in
    let same : place % n ≡ (k * n + (u - 1)) % n = ap (λ z. z % n) e in
    omega arith

-- the circle comes to each of the n threads, from t, which is m threads behind q circles
round_from : (n t q m u : ℕ) → t ≡ q * n + m → m < n → 1 ≤ u → u ≤ n → (d : ℕ) × (1 ≤ d) × (d ≤ n) × (u ≡ in_circle n t d)
round_from n t q m u at small pos le =
    let next : (q + 1) * n ≡ q * n + n = omega arith in
    ⊎_elim
    (λ lt. (u - m, omega arith, omega arith, lands_on n q u (t + (u - m) - 1) pos le (omega arith)))
    (λ ge. (u + n - m, omega arith, omega arith, lands_on n (q + 1) u (t + (u + n - m) - 1) pos le (omega arith)))
    (cases_lt m u)

comes_round : (n t u : ℕ) → 1 ≤ u → u ≤ n → (d : ℕ) × (1 ≤ d) × (d ≤ n) × (u ≡ in_circle n t d)
comes_round n t u pos le = round_from n t (t / n) (t % n) u (sym (div-add-mod' t n)) (omega arith) pos le

module _ {Event Place S : Type 0} (s : System Event Place S) where
  -- a thread that can move makes a move
  pub cut_some : (left : ℕ) (r : Reached S) (turn : Turn) → Moves (s.next r.state turn.thread) → 1 ≤ left → 1 ≤ turn.count → 1 ≤ cut s left r turn
  cut_some left r turn moves some = go turn.count
    where
      t : ℕ
      t = turn.thread

      first : (n : ℕ) (next : Next S) → Moves next → suc (r.moves t) ≤ (tries s t n (moved r t (s.inits r.state t) next)).moves t
      first n (Goes x) m =
          let after : Reached S = moved r t (s.inits r.state t) (Goes x) in
          let rise = moves_rise s t n after in
          let more : after.moves t ≡ suc (r.moves t) = one_more_same t r.moves in
          omega arith
      first n Waits m = absurd m
      first n Ended m = absurd m
      first n Stuck m = absurd m

      go : (count : ℕ) → 1 ≤ count → 1 ≤ min left ((tries s t count r).moves t - r.moves t)
      go zero pos = absurd (omega arith)
      go (suc count) pos = let made = first count (s.next r.state t) moves in omega arith

  -- absent threads have ended in each state that a run comes to from r
  AbsentStayEnded : Reached S → Type 0
  AbsentStayEnded r = (turns : List Turn) → AbsentHaveEnded s (run s turns r).state

  stay_ended : (t n : ℕ) (r : Reached S) → AbsentStayEnded r → AbsentStayEnded (tries s t n r)
  unfolding AbsentStayEnded
  stay_ended t n r stay turns = stay (record { thread = t; count = n } ∷ turns)

  ended_now : (r : Reached S) → AbsentStayEnded r → AbsentHaveEnded s r.state
  unfolding AbsentStayEnded
  ended_now r stay = stay []

  absent_or_there : (x : S) (t : ℕ) → IsAbsent s x t ⊎ ((1 ≤ t) × (t ≤ s.threads x))
  absent_or_there x t = ⊎_elim (λ none. inl (inl (omega arith))) (λ pos. ⊎_elim (λ past. inl (inr past)) (λ le. inr (pos, le)) (cases_lt (s.threads x) t)) (cases_lt t 1)

  not_absent : (x : S) (t : ℕ) → 1 ≤ t → t ≤ s.threads x → IsAbsent s x t → ⊥
  not_absent x t pos le absent = ⊎_elim (λ none. absurd (omega arith)) (λ past. absurd (omega arith)) absent

  -- a thread that can move is there
  mover_there : (x : S) → AbsentHaveEnded s x → (t : ℕ) → Moves (s.next x t) → (1 ≤ t) × (t ≤ s.threads x)
  mover_there x ended t moves = ⊎_elim (λ absent. absurd (subst Moves (ended t absent) moves)) (λ there. there) (absent_or_there x t)

  RestsInCircle : S → ℕ → ℕ → Type 0
  RestsInCircle x last d = Rests (s.next x (in_circle (s.threads x) last d))

  -- no thread moves where those in the circle rest
  all_rest : (last : ℕ) (x : S) → AbsentHaveEnded s x → Throughout (RestsInCircle x last) 1 (suc (s.threads x)) → (t : ℕ) → Moves (s.next x t) → ⊥
  unfolding RestsInCircle
  all_rest last x ended all t moves =
      let k = mover_there x ended t moves in
      let c = comes_round (s.threads x) last t k.0 k.1 in
      moves_rests (s.next x t) moves (subst (λ u. Rests (s.next x u)) (sym c.3) (all c.0 c.1 (omega (arith, c.2))))

  pub over_or_not : (left : ℕ) (x : S) → AbsentHaveEnded s x → Decided (IsOver s left x)
  over_or_not left x ended = ⊎_elim
      (λ some. ⊎_elim
      (λ all. inl (inr (λ t moves. let k = mover_there x ended t moves in all t k.0 (omega (arith, k.1)) moves)))
      (λ f. inr (λ over. ⊎_elim (λ e. absurd (omega arith)) (λ none. f.fails (none f.at)) over))
      (all_or_first (λ t. Moves (s.next x t) → ⊥) (λ t. idle_or_not (s.next x t)) 1 (suc (s.threads x))))
      (λ none. inl (inl (omega arith)))
      (cases_lt 0 left)

  -- a thread of the circle is there
  pub circle_there : (x : S) (t u : ℕ) → ComesNext s x t u → IsAbsent s x u → ⊥
  circle_there x t u c =
      let below = mod_below (t + c.0 - 1) (s.threads x) (let low = c.1 in let high = c.2 in omega arith) in
      let is = c.3 in
      not_absent x u (omega arith) (omega arith)

  abbrev Schedules : ℕ → Ahead → Reached S → Type 0
  Schedules left ahead r = (schedule : List Turn) × (bad : Option ℕ) × Allows s left ahead r schedule bad

  -- a turn that is next, and a schedule behind it where it doesn't halt
  with_turn : (left : ℕ) (ahead : Ahead) (r : Reached S) (turn : Turn) (rest : Ahead) → IsNext s r.state ahead turn rest → (IsOver s left r.state → ⊥) → (IsAbsent s r.state turn.thread → ⊥) → ((IsHalted s turn (cut s left r turn) (tries s turn.thread (cut s left r turn) r).state → ⊥) → Schedules (left - cut s left r turn) rest (tries s turn.thread (cut s left r turn) r)) → Schedules left ahead r
  with_turn left ahead r turn rest next going there further = go (both_or_not (less_or_not n turn.count) (stuck_or_not (s.next (tries s turn.thread n r).state turn.thread)))
    where
      n : ℕ
      n = cut s left r turn

      taken : IsTaken s left r turn (cut s left r turn)
      taken = record { going = going; there = there; moves = refl }

      go : Decided (IsHalted s turn (cut s left r turn) (tries s turn.thread (cut s left r turn) r).state) → Schedules left ahead r
      go (inl halted) = (kept turn.thread (cut s left r turn), None, Halted turn rest (cut s left r turn) next taken halted)
      go (inr free) = let h = further free in (kept turn.thread (cut s left r turn) ++ h.0, h.1, Then turn rest (cut s left r turn) h.0 h.1 next taken free h.2)

  -- a thread that doesn't rest makes a move, or its turn halts at once
  busy_moves : (left quantum u : ℕ) (r : Reached S) → 1 ≤ left → 1 ≤ quantum → (Rests (s.next r.state u) → ⊥) → (IsHalted s (record { thread = u; count = quantum }) (cut s left r (record { thread = u; count = quantum })) (tries s u (cut s left r (record { thread = u; count = quantum })) r).state → ⊥) → 1 ≤ cut s left r (record { thread = u; count = quantum })
  busy_moves left quantum u r some pos busy free = ⊎_elim
      (λ moves. cut_some left r (record { thread = u; count = quantum }) moves some pos)
      (λ stuck.
      let idle : Moves (s.next r.state u) → ⊥ = λ m. moves_not_stuck (s.next r.state u) m stuck in
      let same : (tries s u quantum r).moves u ≡ r.moves u = ap (λ (q : Reached S). q.moves u) (rests s u quantum r idle) in
      let none : cut s left r (record { thread = u; count = quantum }) ≡ 0 = omega arith in
      absurd (free (rw none (pos, stuck))))
      (moves_or_stuck (s.next r.state u) busy)
    where
      moves_not_stuck : (n : Next S) → Moves n → IsStuck n → ⊥
      moves_not_stuck (Goes x) m k = k
      moves_not_stuck Waits m k = m
      moves_not_stuck Ended m k = m
      moves_not_stuck Stuck m k = m

  -- the given turns that are left
  turns_left : Ahead → ℕ
  turns_left (GivenTurn index turn more) = suc (length more)
  turns_left (Round quantum last) = 0

  given_left : (index : ℕ) (turns : List Turn) → turns_left (given_from index turns) ≡ length turns
  unfolding turns_left
  given_left index [] = refl
  given_left index (turn ∷ more) = refl

  HasRound : Ahead → Type 0
  HasRound (GivenTurn index turn more) = Unit {0}
  HasRound (Round quantum last) = 1 ≤ quantum

  given_round : (index : ℕ) (turns : List Turn) → HasRound (given_from index turns)
  unfolding HasRound
  given_round index [] = omega arith
  given_round index (turn ∷ more) = tt

  -- by recursion on a bound of the given turns and the moves that are left
  schedules : (fuel left : ℕ) (ahead : Ahead) (r : Reached S) → HasRound ahead → turns_left ahead + left ≤ fuel → AbsentStayEnded r → Schedules left ahead r
  unfolding RestsInCircle turns_left HasRound
  schedules zero left ahead r round le stay = ([], None, Over (inl (omega arith)))
  schedules (suc fuel) left ahead r round le stay = ⊎_elim
      (λ over. ([], None, Over over))
      (λ going. on (λ left ahead r round le stay. schedules fuel left ahead r round le stay) going ahead round le)
      (over_or_not left r.state (ended_now r stay))
    where
      Shorter : Type 0
      Shorter = (left : ℕ) (ahead : Ahead) (r : Reached S) → HasRound ahead → turns_left ahead + left ≤ fuel → AbsentStayEnded r → Schedules left ahead r

      round_on : Shorter → (IsOver s left r.state → ⊥) → (quantum last : ℕ) → 1 ≤ quantum → left ≤ suc fuel → FirstFailing (RestsInCircle r.state last) 1 (suc (s.threads r.state)) → Schedules left (Round quantum last) r
      round_on shorter going quantum last pos le f =
          let u = in_circle (s.threads r.state) last f.at in
          let turn : Turn = record { thread = u; count = quantum } in
          let some : 1 ≤ left = ⊎_elim (λ none. absurd (going (inl (omega arith)))) (λ pos. pos) (cases_lt left 1) in
          let next : ComesNext s r.state last u = (f.at, f.above, omega (arith, f.below), refl, f.before, f.fails) in
          with_turn left (Round quantum last) r turn (Round quantum u) (next, refl, refl) going (circle_there r.state last u next)
          (λ free. let made = busy_moves left quantum u r some pos f.fails free in
          shorter (left - cut s left r turn) (Round quantum u) (tries s u (cut s left r turn) r) pos (omega arith) (stay_ended u (cut s left r turn) r stay))

      on : Shorter → (IsOver s left r.state → ⊥) → (ahead : Ahead) → HasRound ahead → turns_left ahead + left ≤ suc fuel → Schedules left ahead r
      on shorter going (Round quantum last) round le = ⊎_elim
          (λ all. absurd (going (inr (all_rest last r.state (ended_now r stay) all))))
          (λ f. round_on shorter going quantum last round (omega arith) f)
          (all_or_first (RestsInCircle r.state last) (λ d. rests_or_not (s.next r.state (in_circle (s.threads r.state) last d))) 1 (suc (s.threads r.state)))
      on shorter going (GivenTurn index turn more) round le = ⊎_elim
          (λ absent. ([], Some index, Absent index turn more going absent))
          (λ there. with_turn left (GivenTurn index turn more) r turn (given_from (suc index) more) (refl, refl) going (not_absent r.state turn.thread there.0 there.1)
          (λ free. shorter (left - cut s left r turn) (given_from (suc index) more) (tries s turn.thread (cut s left r turn) r) (given_round (suc index) more) (let size = given_left (suc index) more in omega arith) (stay_ended turn.thread (cut s left r turn) r stay)))
          (absent_or_there r.state turn.thread)

  has_round : (plan : Plan) → HasQuantum plan → HasRound (at_first plan)
  unfolding HasRound
  has_round (RoundRobin quantum) pos = pos
  has_round (Given turns) pos = given_round 0 turns

pub planned_always : {Event Place S : Type 0} (s : System Event Place S) (plan : Plan) (budget : ℕ) → HasQuantum plan → ((turns : List Turn) → AbsentHaveEnded s (reach s turns).state) → (schedule : List Turn) × Planned s plan budget schedule
unfolding AbsentStayEnded
planned_always s plan budget pos ended =
    let h = schedules s (turns_left s (at_first plan) + budget) budget (at_first plan) (start s) (has_round s plan pos) (omega arith) ended in
    (h.0, (h.1, h.2))
