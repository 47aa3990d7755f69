-- A planned schedule keeps the budget, and each of its turns is whole.
use Rattle.std.proofs.Common.{◌≡◌, ℕ, zero, suc, ◌+◌, ◌-◌, ◌≤◌, List, [], ◌++◌, Option, refl, sym, subst, arith, ap, append-nil}
use Rattle.runs.specs.declared.turn.Turn.{Turn}
use Rattle.runs.specs.System.{Next, Goes, Waits, Ended, Stuck, System, Reached, one_more, moved, tries, start}
use Rattle.runs.specs.Planned.{Moves, Ahead, Allows, Over, Absent, Halted, Then, IsTaken, Plan, Planned, cut, kept, at_first, total, AreWhole}
use Rattle.runs.proofs.Putting.{put-same}

pub one_more_same : (t : ℕ) (moves : ℕ → ℕ) → one_more t moves t ≡ suc (moves t)
one_more_same t moves = put-same t (suc (moves t)) moves

module _ {Event Place S : Type 0} (s : System Event Place S) (t : ℕ) where
  -- a thread that can't move makes no move, however often it tries
  pub rests : (n : ℕ) (r : Reached S) → (Moves (s.next r.state t) → ⊥) → tries s t n r ≡ r
  rests zero r idle = refl
  rests (suc n) r idle = go (rests n r idle) (s.next r.state t) refl
    where
      go : tries s t n r ≡ r → (next : Next S) → s.next r.state t ≡ next → tries s t n (moved r t (s.inits r.state t) (s.next r.state t)) ≡ r
      go same (Goes x) is = absurd (idle (subst Moves (sym is) tt))
      go same Waits is = rw is same
      go same Ended is = rw is same
      go same Stuck is = rw is same

  -- after n tries t has made no fewer moves
  pub moves_rise : (n : ℕ) (r : Reached S) → r.moves t ≤ (tries s t n r).moves t
  moves_rise zero r = omega arith
  moves_rise (suc n) r = go (λ q. moves_rise n q) (s.next r.state t) refl
    where
      go : ((q : Reached S) → q.moves t ≤ (tries s t n q).moves t) → (next : Next S) → s.next r.state t ≡ next → r.moves t ≤ (tries s t n (moved r t (s.inits r.state t) (s.next r.state t))).moves t
      go rise (Goes x) is =
          let after : Reached S = moved r t (s.inits r.state t) (Goes x) in
          let more : after.moves t ≡ suc (r.moves t) = one_more_same t r.moves in
          let k : after.moves t ≤ (tries s t n after).moves t = rise after in
          rw is (let l : suc (r.moves t) ≤ (tries s t n after).moves t = subst (λ m. m ≤ (tries s t n after).moves t) more k in omega arith)
      go rise Waits is = rw is (rise r)
      go rise Ended is = rw is (rise r)
      go rise Stuck is = rw is (rise r)

  Fronts : ℕ → ℕ → Type 0
  Fronts count n = (r : Reached S) → r.moves t + n ≤ (tries s t count r).moves t → (tries s t n r).moves t ≡ r.moves t + n

  none_made : (count n : ℕ) (r : Reached S) → (Moves (s.next r.state t) → ⊥) → r.moves t + suc n ≤ (tries s t count r).moves t → ⊥
  none_made count n r idle le = let e : (tries s t count r).moves t ≡ r.moves t = ap (λ (x : Reached S). x.moves t) (rests count r idle) in omega arith

  -- the first n of so many tries are moves, where n of them are
  front_moves : (count n : ℕ) → Fronts count n
  unfolding Fronts
  front_moves count zero r h = omega arith
  front_moves zero (suc n) r h = absurd (omega arith)
  front_moves (suc count) (suc n) r h = go (λ q. front_moves count n q) (s.next r.state t) refl h
    where
      go : ((q : Reached S) → q.moves t + n ≤ (tries s t count q).moves t → (tries s t n q).moves t ≡ q.moves t + n) → (next : Next S) → s.next r.state t ≡ next → r.moves t + suc n ≤ (tries s t count (moved r t (s.inits r.state t) (s.next r.state t))).moves t → (tries s t n (moved r t (s.inits r.state t) (s.next r.state t))).moves t ≡ r.moves t + suc n
      go front (Goes x) is =
          let after : Reached S = moved r t (s.inits r.state t) (Goes x) in
          let more : after.moves t ≡ suc (r.moves t) = one_more_same t r.moves in
          rw is (λ le. let k : (tries s t n after).moves t ≡ after.moves t + n = front after (let l : after.moves t + n ≡ r.moves t + suc n = omega arith in subst (λ m. m ≤ (tries s t count after).moves t) (sym l) le) in omega arith)
      go front Waits is = rw is (λ le. absurd (none_made count n r (subst (λ (m : Next S). Moves m → ⊥) (sym is) (λ m. m)) le))
      go front Ended is = rw is (λ le. absurd (none_made count n r (subst (λ (m : Next S). Moves m → ⊥) (sym is) (λ m. m)) le))
      go front Stuck is = rw is (λ le. absurd (none_made count n r (subst (λ (m : Next S). Moves m → ⊥) (sym is) (λ m. m)) le))

-- the moves of a turn within the budget are its first tries, and are no more than are left
pub cut_moves : {Event Place S : Type 0} (s : System Event Place S) (left : ℕ) (r : Reached S) (turn : Turn) → (tries s turn.thread (cut s left r turn) r).moves turn.thread ≡ r.moves turn.thread + cut s left r turn
unfolding Fronts
cut_moves s left r turn = front_moves s turn.thread turn.count (cut s left r turn) r (let rise = moves_rise s turn.thread turn.count r in omega arith)

pub cut_fits : {Event Place S : Type 0} (s : System Event Place S) (left : ℕ) (r : Reached S) (turn : Turn) → cut s left r turn ≤ left
cut_fits s left r turn = omega arith

-- a schedule that keeps the budget, of whole turns
Within : {Event Place S : Type 0} → System Event Place S → ℕ → Reached S → List Turn → Type 0
Within s left r schedule = (total schedule ≤ left) × AreWhole s r schedule

kept_within : {Event Place S : Type 0} (s : System Event Place S) (t n left : ℕ) (r : Reached S) (rest : List Turn) → n ≤ left → (tries s t n r).moves t ≡ r.moves t + n → Within s (left - n) (tries s t n r) rest → Within s left r (kept t n ++ rest)
unfolding Within
kept_within s t zero left r rest le whole h = (omega (arith, h.0), h.1)
kept_within s t (suc n) left r rest le whole h = (omega (arith, h.0), (omega arith, whole, h.1))

-- a turn that is taken, and what follows it
taken_within : {Event Place S : Type 0} (s : System Event Place S) (left : ℕ) (r : Reached S) (turn : Turn) (n : ℕ) (rest : List Turn) → IsTaken s left r turn n → Within s (left - n) (tries s turn.thread n r) rest → Within s left r (kept turn.thread n ++ rest)
taken_within s left r turn n rest taken h =
    kept_within s turn.thread n left r rest
    (subst (λ m. m ≤ left) taken.moves (cut_fits s left r turn))
    (subst (λ m. (tries s turn.thread m r).moves turn.thread ≡ r.moves turn.thread + m) taken.moves (cut_moves s left r turn))
    h

allowed_within : {Event Place S : Type 0} (s : System Event Place S) (left : ℕ) (ahead : Ahead) (r : Reached S) (schedule : List Turn) (bad : Option ℕ) → Allows s left ahead r schedule bad → Within s left r schedule
unfolding Within
allowed_within s left ahead r schedule bad (Over over) = (omega arith, tt)
allowed_within s left ahead r schedule bad (Absent index turn more going absent) = (omega arith, tt)
allowed_within s left ahead r schedule bad (Halted turn rest n next taken halted) =
    subst (Within s left r) (append-nil (kept turn.thread n)) (taken_within s left r turn n [] taken (omega arith, tt))
allowed_within s left ahead r schedule bad (Then turn rest n more bad' next taken free h) =
    taken_within s left r turn n more taken (allowed_within s (left - n) rest (tries s turn.thread n r) more bad' h)

pub planned_within : {Event Place S : Type 0} (s : System Event Place S) (plan : Plan) (budget : ℕ) (schedule : List Turn) → Planned s plan budget schedule → (total schedule ≤ budget) × AreWhole s (start s) schedule
unfolding Within
planned_within s plan budget schedule h = allowed_within s budget (at_first plan) (start s) schedule h.0 h.1
