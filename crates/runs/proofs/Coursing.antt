-- The turns of a run, one after another.
use Rattle.std.proofs.Common.{◌≡◌, ◌≢◌, ℕ, zero, suc, ◌+◌, ◌-◌, ◌<◌, ◌≤◌, ◌⊎◌, min, List, [], ◌∷◌, ◌++◌, length, get_or, drop, drop-cons, add-one, refl, sym, subst, arith, ap, ◌∙◌, ⊎_elim, inl, inr, append_assoc, append-nil, Option, None, Some}
use Rattle.std.proofs.lemmas.Bool.{cases_lt}
use Rattle.std.proofs.Math.ListN.{drop_of_length-le}
use Rattle.runs.specs.declared.turn.Turn.{Turn}
use Rattle.runs.specs.declared.ending.Ending.{Ending}
use Rattle.runs.specs.declared.ending.Ending.TheVariants.{Finished, Deadlock, Budget, Stuck, BadTurn}
use Rattle.runs.specs.System.{AbsentHaveEnded, IsAbsent, System, Reached, tries, run, reach, start}
use Rattle.runs.specs.Planned.{Moves, IsStuck, IsOver, IsHalted, IsNext, IsTaken, ComesNext, cut, kept, Ahead, GivenTurn, Round, given_from, at_first, Plan, Given, Allows, Over, Absent, Halted, Then, Planned, total}
use Rattle.runs.specs.Ends.{EndsAs, GivenEndsAs, NoBadTurn}
use Rattle.runs.specs.Made.{Made, IsCut}
use Rattle.runs.specs.Course.{Course, OnCourse, Stops}
use Rattle.runs.proofs.Determined.{allowed_once}
use Rattle.runs.proofs.Making.{made_all}
use Rattle.runs.proofs.Planning.{moves_rise, rests}
use Rattle.runs.proofs.Replaying.{run-append, tries-add}
use Rattle.runs.proofs.Scheduling.{circle_there, cut_some, moves_or_stuck, over_or_not}

pub made_cut : {Event Place S : Type 0} (s : System Event Place S) (left : ℕ) (x : S) (turn : Turn) (count n : ℕ) (y : S) → count ≡ min left turn.count → Made s turn.thread count x n y → IsCut s left x turn n y
made_cut {S = S} s left x turn count n y is h =
    let within = h.within in
    record {
      within = omega arith;
      state = h.state;
      count = λ r e.
          let whole = h.whole r e in
          let t = turn.thread in
          let part : tries s t turn.count r ≡ tries s t (turn.count - count) (tries s t count r) =
          (let sum : count + (turn.count - count) ≡ turn.count = omega arith in
          ap (λ k. tries s t k r) (sym sum) ∙ tries-add s t count (turn.count - count) r) in
          let same : (tries s t count r).moves t ≡ (tries s t n r).moves t = ap (λ (q : Reached S). q.moves t) (made_all s t count x n y h r e) in
          let rise : (tries s t count r).moves t ≤ (tries s t (turn.count - count) (tries s t count r)).moves t = moves_rise s t (turn.count - count) (tries s t count r) in
          let joined : (tries s t turn.count r).moves t ≡ (tries s t (turn.count - count) (tries s t count r)).moves t = ap (λ (q : Reached S). q.moves t) part in
          ⊎_elim
          (λ (short : left ≤ n). omega arith)
          (λ (other : n < left). ⊎_elim
          (λ (lt : n < turn.count).
          let stops : Moves (s.next (tries s t n r).state t) → ⊥ = λ m. h.stops (omega arith) (subst (λ w. Moves (s.next w t)) (h.state r e) m) in
          let alone : Made s t turn.count x n y = record { within = omega arith; whole = h.whole; state = h.state; stops = λ below. h.stops (omega arith) } in
          let all : (tries s t turn.count r).moves t ≡ (tries s t n r).moves t = ap (λ (q : Reached S). q.moves t) (made_all s t turn.count x n y alone r e) in
          omega arith)
          (λ (ge : turn.count ≤ n).
          let all : (tries s t turn.count r).moves t ≡ (tries s t n r).moves t = ap (λ k. (tries s t k r).moves t) (let k : turn.count ≡ n = omega arith in k) in
          omega arith)
          (cases_lt n turn.count))
          (swap (cases_lt n left));
    }
  where
    swap : {A B : Type 0} → A ⊎ B → B ⊎ A
    swap (inl a) = inr a
    swap (inr b) = inl b

pub total-append : (xs ys : List Turn) → total (xs ++ ys) ≡ total xs + total ys
total-append [] ys = omega arith
total-append (x ∷ xs) ys = omega (arith, total-append xs ys)

-- the moves of a turn that is kept
run_kept : {Event Place S : Type 0} (s : System Event Place S) (t n : ℕ) (r : Reached S) → run s (kept t n) r ≡ tries s t n r
run_kept s t zero r = refl
run_kept s t (suc n) r = refl

total_kept : (t n : ℕ) → total (kept t n) ≡ n
total_kept t zero = refl
total_kept t (suc n) = omega arith

pub course_starts : {Event Place S : Type 0} (s : System Event Place S) (budget : ℕ) (ahead : Ahead) (x : S) → OnCourse s budget ahead x budget ahead [] x
course_starts s budget ahead x = record { spent = omega arith; state = λ r e. e; allows = λ r e more bad h. h }

module _ {Event Place S : Type 0} (s : System Event Place S) (budget : ℕ) (ahead : Ahead) (x : S) (left : ℕ) (rest : Ahead) (turns : List Turn) (y : S) (on : OnCourse s budget ahead x left rest turns y) where
  -- the moves left are what the turns leave of the budget
  left_is : left ≡ budget - total turns
  left_is = let spent = on.spent in omega arith

  -- a further course joins on
  pub course_joins : (more : List Turn) (bad : Option ℕ) (z : S) → Course s left rest y more bad z → Course s budget ahead x (turns ++ more) bad z
  course_joins more bad z c = record {
    allows = λ r e. on.allows r e more bad (c.allows (run s turns r) (on.state r e));
    state = λ r e. ap (λ (q : Reached S). q.state) (run-append s turns more r) ∙ c.state (run s turns r) (on.state r e);
    stops = λ good. subst (λ m. Stops s m z) (let spent = on.spent in omega (arith, total-append turns more)) (c.stops good);
  }

  -- it ends as the further one
  pub ends_later : (more : List Turn) (z : S) (end : Ending) → EndsAs s (left - total more) z end → EndsAs s (budget - total (turns ++ more)) z end
  ends_later more z end h = subst (λ m. EndsAs s m z end) (let spent = on.spent in omega (arith, total-append turns more)) h

  -- nothing follows
  ends_here : (bad : Option ℕ) → ((r : Reached S) → r.state ≡ y → Allows s left rest r [] bad) → (bad ≡ None → Stops s left y) → Course s budget ahead x turns bad y
  ends_here bad allows stops =
      subst (λ all. Course s budget ahead x all bad y) (append-nil turns)
      (course_joins [] bad y (record { allows = allows; state = λ r e. e; stops = λ good. subst (λ m. Stops s m y) (let n : left ≡ left - 0 = omega arith in n) (stops good) }))

  pub course_over : IsOver s left y → Course s budget ahead x turns None y
  course_over over = ends_here None (λ r e. Over (rw e over)) (λ good. inl over)

  module _ (turn : Turn) (behind : Ahead) (next : IsNext s y rest turn behind) (going : IsOver s left y → ⊥) (there : IsAbsent s y turn.thread → ⊥) (n : ℕ) (z : S) (is : IsCut s left y turn n z) where
    next_at : (r : Reached S) → r.state ≡ y → IsNext s r.state rest turn behind
    next_at r e = rw e next

    taken_at : (r : Reached S) → r.state ≡ y → IsTaken s left r turn n
    taken_at r e = record {
      going = subst (λ w. IsOver s left w → ⊥) (sym e) going;
      there = subst (λ w. IsAbsent s w turn.thread → ⊥) (sym e) there;
      moves = is.count r e;
    }

    state_at : (r : Reached S) → r.state ≡ y → (run s (kept turn.thread n) r).state ≡ z
    state_at r e = ap (λ (q : Reached S). q.state) (run_kept s turn.thread n r) ∙ is.state r e

    pub course_halts : IsHalted s turn n z → Course s budget ahead x (turns ++ kept turn.thread n) None z
    course_halts halted = course_joins (kept turn.thread n) None z (record {
      allows = λ r e. Halted turn behind n (next_at r e) (taken_at r e) (subst (IsHalted s turn n) (sym (is.state r e)) halted);
      state = state_at;
      stops = λ good. inr (turn.thread, halted.1);
    })

    pub course_more : (IsHalted s turn n z → ⊥) → OnCourse s budget ahead x (left - n) behind (turns ++ kept turn.thread n) z
    course_more free = record {
      spent = let spent = on.spent in let fits = is.within in omega (arith, total-append turns (kept turn.thread n), total_kept turn.thread n);
      state = λ r e. ap (λ (q : Reached S). q.state) (run-append s turns (kept turn.thread n) r) ∙ state_at (run s turns r) (on.state r e);
      allows = λ r e more bad h.
          let q = run s turns r in
          let at = on.state r e in
          let joined : run s (turns ++ kept turn.thread n) r ≡ tries s turn.thread n q = run-append s turns (kept turn.thread n) r ∙ run_kept s turn.thread n q in
          let behind_turn : Allows s (left - n) behind (tries s turn.thread n q) more bad = subst (λ w. Allows s (left - n) behind w more bad) joined h in
          let whole : Allows s left rest q (kept turn.thread n ++ more) bad = Then turn behind n more bad (next_at q at) (taken_at q at) (subst (λ w. IsHalted s turn n w → ⊥) (sym (is.state q at)) free) behind_turn in
          subst (λ all. Allows s budget ahead r all bad) (sym (append_assoc turns (kept turn.thread n) more)) (on.allows r e (kept turn.thread n ++ more) bad whole);
    }

-- a given turn whose thread isn't there
pub course_absent : {Event Place S : Type 0} (s : System Event Place S) (budget : ℕ) (ahead : Ahead) (x : S) (left index : ℕ) (turn : Turn) (more : List Turn) (turns : List Turn) (y : S) → OnCourse s budget ahead x left (GivenTurn index turn more) turns y → (IsOver s left y → ⊥) → IsAbsent s y turn.thread → Course s budget ahead x turns (Some index) y
course_absent s budget ahead x left index turn more turns y on going absent =
    ends_here s budget ahead x left (GivenTurn index turn more) turns y on (Some index)
    (λ r e. Absent index turn more (subst (λ w. IsOver s left w → ⊥) (sym e) going) (subst (λ w. IsAbsent s w turn.thread) (sym e) absent))
    (λ good. let no : Some index ≡ None = good in cc)

-- a turn of a round robin, of the thread that comes next
module _ {Event Place S : Type 0} (s : System Event Place S) (quantum budget : ℕ) (x : S) (left last t : ℕ) (turns : List Turn) (y : S) (n : ℕ) (z : S) (on : OnCourse s budget (Round quantum 0) x left (Round quantum last) turns y) (ended : AbsentHaveEnded s y) (next : ComesNext s y last t) (is : IsCut s left y (record { thread = t; count = quantum }) n z) (some : 0 < left) (pos : 0 < quantum) where
  abbrev turn : Turn
  turn = record { thread = t; count = quantum }

  abbrev at : Reached S
  at = record { state = y; moves = λ u. 0; inits = 0 }

  -- where it makes no move the state stays
  stays_at : n ≡ 0 → y ≡ z
  stays_at e = subst (λ k. (tries s t k at).state ≡ z) e (is.state at refl)

  idle_none : (Moves (s.next y t) → ⊥) → n ≡ 0
  idle_none idle =
      let count : cut s left at turn ≡ n = is.count at refl in
      let same : (tries s t quantum at).moves t ≡ 0 = ap (λ (q : Reached S). q.moves t) (rests s t quantum at idle) in
      omega arith

  pub round_some : (IsHalted s turn n z → ⊥) → 0 < n
  round_some free = ⊎_elim
      (λ made. made)
      (λ none.
      let e : n ≡ 0 = omega arith in
      ⊎_elim
      (λ moves. let count : cut s left at turn ≡ n = is.count at refl in let made : 1 ≤ cut s left at turn = cut_some s left at turn moves some pos in omega arith)
      (λ stuck. absurd (free (omega arith, subst (λ w. IsStuck (s.next w t)) (stays_at e) stuck)))
      (moves_or_stuck (s.next y t) next.5))
      (cases_lt 0 n)

  pub round_more : (IsHalted s turn n z → ⊥) → OnCourse s budget (Round quantum 0) x (left - n) (Round quantum t) (turns ++ kept t n) z
  round_more free =
      let made = round_some free in
      let going : IsOver s left y → ⊥ = λ over. ⊎_elim (λ e. absurd (omega arith)) (λ none. let e = idle_none (none t) in absurd (omega arith)) over in
      course_more s budget (Round quantum 0) x left (Round quantum last) turns y on turn (Round quantum t) (next, refl, refl) going (circle_there s y last t next) n z is free

  pub round_halts : IsHalted s turn n z → Course s budget (Round quantum 0) x (turns ++ kept t n) None z
  round_halts halted = ⊎_elim
      (λ over.
      let e : n ≡ 0 = ⊎_elim (λ none. absurd (omega arith)) (λ none. idle_none (none t)) over in
      let here : Course s budget (Round quantum 0) x turns None y = course_over s budget (Round quantum 0) x left (Round quantum last) turns y on over in
      let same : turns ≡ turns ++ kept t n = sym (ap (λ k. turns ++ kept t k) e ∙ append-nil turns) in
      subst (λ w. Course s budget (Round quantum 0) x (turns ++ kept t n) None w) (stays_at e) (subst (λ all. Course s budget (Round quantum 0) x all None y) same here))
      (λ going. course_halts s budget (Round quantum 0) x left (Round quantum last) turns y on turn (Round quantum t) (next, refl, refl) going (circle_there s y last t next) n z is halted)
      (over_or_not s left y ended)

-- a run with moves left, where some thread can move, isn't over
pub not_over : {Event Place S : Type 0} (s : System Event Place S) (left t : ℕ) (y : S) → 0 < left → Moves (s.next y t) → IsOver s left y → ⊥
not_over s left t y some moves over = ⊎_elim (λ none. absurd (omega arith)) (λ none. none t moves) over

-- given turns, of which so many are used
module _ {Event Place S : Type 0} (s : System Event Place S) (budget : ℕ) (x : S) (given : List Turn) (left i : ℕ) (turns : List Turn) (y : S) (on : OnCourse s budget (given_from 0 given) x left (given_from i (drop i given)) turns y) where
  pub given_over : IsOver s left y → Course s budget (given_from 0 given) x turns None y
  given_over over = course_over s budget (given_from 0 given) x left (given_from i (drop i given)) turns y on over

  -- all are
  pub given_used : length given ≤ i → OnCourse s budget (given_from 0 given) x left (Round 50 0) turns y
  given_used le = subst (λ rest. OnCourse s budget (given_from 0 given) x left rest turns y) (ap (given_from i) (drop_of_length-le given le)) on

  module _ (d : Turn) (lt : i < length given) (t : ℕ) (some : 0 < left) (moves : Moves (s.next y t)) where
    abbrev here : Turn
    here = get_or given i d

    on_here : OnCourse s budget (given_from 0 given) x left (GivenTurn i here (drop (i + 1) given)) turns y
    on_here =
        subst (λ rest. OnCourse s budget (given_from 0 given) x left rest turns y)
        (ap (given_from i) (drop-cons given i d lt ∙ ap (λ j. here ∷ drop j given) (sym (add-one i)))) on

    pub given_absent : IsAbsent s y here.thread → Course s budget (given_from 0 given) x turns (Some i) y
    given_absent absent = course_absent s budget (given_from 0 given) x left i here (drop (i + 1) given) turns y on_here (not_over s left t y some moves) absent

    module _ (threads : ℕ) (is_threads : threads ≡ s.threads y) (pos : here.thread ≢ 0) (le : here.thread ≤ threads) (n : ℕ) (z : S) (is : IsCut s left y here n z) where
      there : IsAbsent s y here.thread → ⊥
      there absent = ⊎_elim (λ none. pos none) (λ past. absurd (omega arith)) absent

      pub given_halts : IsHalted s here n z → Course s budget (given_from 0 given) x (turns ++ kept here.thread n) None z
      given_halts halted = course_halts s budget (given_from 0 given) x left (GivenTurn i here (drop (i + 1) given)) turns y on_here here (given_from (suc i) (drop (i + 1) given)) (refl, refl) (not_over s left t y some moves) there n z is halted

      pub given_more : (IsHalted s here n z → ⊥) → OnCourse s budget (given_from 0 given) x (left - n) (given_from (i + 1) (drop (i + 1) given)) (turns ++ kept here.thread n) z
      given_more free =
          subst (λ rest. OnCourse s budget (given_from 0 given) x (left - n) rest (turns ++ kept here.thread n) z)
          (ap (λ j. given_from j (drop (i + 1) given)) (sym (add-one i)))
          (course_more s budget (given_from 0 given) x left (GivenTurn i here (drop (i + 1) given)) turns y on_here here (given_from (suc i) (drop (i + 1) given)) (refl, refl) (not_over s left t y some moves) there n z is free)

-- what comes behind a schedule that was lengthened before
pub joined : (old before now done new : List Turn) → before ≡ old ++ done → now ≡ before ++ new → now ≡ old ++ (done ++ new)
joined old before now done new e f = f ∙ (ap (λ xs. xs ++ new) e ∙ append_assoc old done new)

-- a whole run from the first state
module _ {Event Place S : Type 0} (s : System Event Place S) (budget : ℕ) (x : S) (old turns now : List Turn) (bad : Option ℕ) (y : S) (first : x ≡ s.first) (none : old ≡ []) (is : now ≡ old ++ turns) where
  now_is : now ≡ turns
  now_is = is ∙ ap (λ xs. xs ++ turns) none

  pub run_state : (ahead : Ahead) → Course s budget ahead x turns bad y → y ≡ (reach s now).state
  run_state ahead c = sym (ap (λ all. (reach s all).state) now_is ∙ c.state (start s) (sym first))

  pub run_planned : (plan : Plan) → Course s budget (at_first plan) x turns bad y → Planned s plan budget now
  run_planned plan c = (bad, rw now_is (c.allows (start s) (sym first)))

module _ {Event Place S : Type 0} (s : System Event Place S) (given : List Turn) (budget : ℕ) where
  -- a schedule that ends before no bad turn shows that there is none that is reached
  no_bad : (schedule : List Turn) → Allows s budget (at_first (Given given)) (start s) schedule None → NoBadTurn s given budget
  no_bad schedule h index bad =
      let same = (allowed_once s budget (at_first (Given given)) (start s) schedule None bad.0 (Some index) h bad.1).1 in
      let no : None ≡ Some index = same in cc

  by_state : (moves : ℕ) (x : S) (end : Ending) → NoBadTurn s given budget → EndsAs s (budget - moves) x end → GivenEndsAs s given budget moves x end
  by_state moves x Finished none h = (h, none)
  by_state moves x Deadlock none h = (h, none)
  by_state moves x Budget none h = (h, none)
  by_state moves x (Stuck t) none h = (h, none)
  by_state moves x (BadTurn i) none h = absurd h

  -- it ends by its state
  pub given_ends : (x : S) (old turns now : List Turn) (y : S) (end : Ending) → x ≡ s.first → old ≡ [] → now ≡ old ++ turns → Course s budget (at_first (Given given)) x turns None y → EndsAs s (budget - total turns) y end → GivenEndsAs s given budget (total now) y end
  given_ends x old turns now y end first none is c ends =
      let now_is : now ≡ turns = is ∙ ap (λ xs. xs ++ turns) none in
      rw now_is (by_state (total turns) y end (no_bad turns (c.allows (start s) (sym first))) ends)
