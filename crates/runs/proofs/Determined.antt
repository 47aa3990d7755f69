-- A plan and a budget allow at most one schedule. Where they lead to a bad turn, its thread isn't there.
use Rattle.std.proofs.Common.{◌≡◌, ℕ, zero, suc, ◌+◌, ◌-◌, ◌<◌, List, [], ◌∷◌, ◌++◌, ◌⊎◌, ⊎_elim, inl, inr, refl, sym, subst, arith, ap, ◌∙◌, Option, None, Some, slice_get}
use Rattle.std.proofs.lemmas.Bool.{cases_lt}
use Rattle.runs.specs.declared.turn.Turn.{Turn}
use Rattle.runs.specs.System.{Next, Goes, Waits, Ended, Stuck, System, Reached, IsAbsent, tries, run, start, reach}
use Rattle.runs.specs.Planned.{Moves, IsStuck, Rests, IsOver, IsHalted, IsNext, IsTaken, ComesNext, in_circle, cut, kept, Ahead, GivenTurn, Round, Allows, Over, Absent, Halted, Then, Plan, Given, Planned, IsBadTurn, at_first, given_from}

pub moves_rests : {S : Type 0} (n : Next S) → Moves n → Rests n → ⊥
moves_rests (Goes x) m r = r
moves_rests Waits m r = m
moves_rests Ended m r = m
moves_rests Stuck m r = m

pub stuck_rests : {S : Type 0} (n : Next S) → IsStuck n → Rests n → ⊥
stuck_rests (Goes x) m r = m
stuck_rests Waits m r = m
stuck_rests Ended m r = m
stuck_rests Stuck m r = r

same_turn : (a b : Turn) → a.thread ≡ b.thread → a.count ≡ b.count → a ≡ b
same_turn a b e f =
    let first : a ≡ record { thread = b.thread; count = a.count } = ap (λ (t : ℕ). let turn : Turn = record { thread = t; count = a.count } in turn) e in
    first ∙ ap (λ (c : ℕ). let turn : Turn = record { thread = b.thread; count = c } in turn) f

-- one of two numbers is less, or they are the same
trichotomy : (m n : ℕ) → (m < n) ⊎ ((n < m) ⊎ (m ≡ n))
trichotomy m n = ⊎_elim inl (λ le. ⊎_elim (λ lt. inr (inl lt)) (λ ge. inr (inr (omega arith))) (cases_lt n m)) (cases_lt m n)

module _ {Event Place S : Type 0} (s : System Event Place S) where
  -- one thread alone comes next
  comes_once : (x : S) (t u v : ℕ) → ComesNext s x t u → ComesNext s x t v → u ≡ v
  comes_once x t u v a b = ⊎_elim
      (λ lt. absurd (a.5 (subst (λ w. Rests (s.next x w)) (sym a.3) (b.4 a.0 a.1 lt))))
      (λ other. ⊎_elim
      (λ lt. absurd (b.5 (subst (λ w. Rests (s.next x w)) (sym b.3) (a.4 b.0 b.1 lt))))
      (λ same. a.3 ∙ (ap (in_circle (s.threads x) t) same ∙ sym b.3))
      other)
      (trichotomy a.0 b.0)

  -- one turn alone is next, with one plan behind it
  next_once : (x : S) (ahead : Ahead) (a b : Turn) (p q : Ahead) → IsNext s x ahead a p → IsNext s x ahead b q → (a ≡ b) × (p ≡ q)
  next_once x (GivenTurn index turn more) a b p q h k = (h.0 ∙ sym k.0, h.1 ∙ sym k.1)
  next_once x (Round quantum last) a b p q h k =
      let thread = comes_once x last a.thread b.thread h.0 k.0 in
      (same_turn a b thread (h.1 ∙ sym k.1), h.2 ∙ (ap (Round quantum) thread ∙ sym k.2))

  -- what two derivations that take the same turn have in common
  record Same (left : ℕ) (r : Reached S) (a b : Turn) (p q : Ahead) (m n : ℕ) : Type 0 where
    turn : a ≡ b
    rest : p ≡ q
    moves : m ≡ n

  taken_once : (left : ℕ) (ahead : Ahead) (r : Reached S) (a b : Turn) (p q : Ahead) (m n : ℕ) → IsNext s r.state ahead a p → IsNext s r.state ahead b q → IsTaken s left r a m → IsTaken s left r b n → Same left r a b p q m n
  taken_once left ahead r a b p q m n h k x y =
      let e = next_once r.state ahead a b p q h k in
      record { turn = e.0; rest = e.1; moves = sym x.moves ∙ (ap (cut s left r) e.0 ∙ y.moves) }

  -- a halted turn doesn't go on
  halts_or_goes : (left : ℕ) (r : Reached S) (a b : Turn) (p q : Ahead) (m n : ℕ) → Same left r a b p q m n → IsHalted s a m (tries s a.thread m r).state → (IsHalted s b n (tries s b.thread n r).state → ⊥) → ⊥
  halts_or_goes left r a b p q m n e halted free =
      free (subst (λ k. IsHalted s b k (tries s b.thread k r).state) e.moves (subst (λ (t : Turn). IsHalted s t m (tries s t.thread m r).state) e.turn halted))

  same_kept : (left : ℕ) (r : Reached S) (a b : Turn) (p q : Ahead) (m n : ℕ) → Same left r a b p q m n → kept a.thread m ≡ kept b.thread n
  same_kept left r a b p q m n e = ap (λ (t : Turn). kept t.thread m) e.turn ∙ ap (kept b.thread) e.moves

  -- a given turn whose thread isn't there isn't taken
  absent_taken : (left index : ℕ) (r : Reached S) (turn b : Turn) (more : List Turn) (q : Ahead) (n : ℕ) → IsAbsent s r.state turn.thread → IsNext s r.state (GivenTurn index turn more) b q → IsTaken s left r b n → ⊥
  absent_taken left index r turn b more q n absent next taken =
      taken.there (subst (λ (t : Turn). IsAbsent s r.state t.thread) (sym next.0) absent)

  -- the same schedule, and the same bad turn
  AreSame : List Turn → List Turn → Option ℕ → Option ℕ → Type 0
  AreSame a b x y = (a ≡ b) × (x ≡ y)

  further : (left : ℕ) (r : Reached S) (a b : Turn) (p q : Ahead) (m n : ℕ) (xs ys : List Turn) (x y : Option ℕ) → Same left r a b p q m n → ((ys : List Turn) (y : Option ℕ) → Allows s (left - m) p (tries s a.thread m r) ys y → AreSame xs ys x y) → Allows s (left - n) q (tries s b.thread n r) ys y → AreSame (kept a.thread m ++ xs) (kept b.thread n ++ ys) x y
  unfolding AreSame
  further left r a b p q m n xs ys x y e once k =
      let at_turn : Allows s (left - n) q (tries s a.thread n r) ys y = subst (λ (t : Turn). Allows s (left - n) q (tries s t.thread n r) ys y) (sym e.turn) k in
      let at_moves : Allows s (left - m) q (tries s a.thread m r) ys y = subst (λ j. Allows s (left - j) q (tries s a.thread j r) ys y) (sym e.moves) at_turn in
      let same = once ys y (subst (λ z. Allows s (left - m) z (tries s a.thread m r) ys y) (sym e.rest) at_moves) in
      (ap (λ zs. zs ++ xs) (same_kept left r a b p q m n e) ∙ ap (λ zs. kept b.thread n ++ zs) same.0, same.1)

  pub allowed_once : (left : ℕ) (ahead : Ahead) (r : Reached S) (a : List Turn) (x : Option ℕ) (b : List Turn) (y : Option ℕ) → Allows s left ahead r a x → Allows s left ahead r b y → (a ≡ b) × (x ≡ y)
  unfolding AreSame
  allowed_once left ahead r a x b y (Over o) (Over p) = (refl, refl)
  allowed_once left ahead r a x b y (Over o) (Absent index turn more going absent) = absurd (going o)
  allowed_once left ahead r a x b y (Over o) (Halted turn rest n next taken halted) = absurd (taken.going o)
  allowed_once left ahead r a x b y (Over o) (Then turn rest n more bad next taken free k) = absurd (taken.going o)
  allowed_once left ahead r a x b y (Absent index turn more going absent) k = absent_once left index r turn more b y going absent k
    where
      absent_once : (left index : ℕ) (r : Reached S) (turn : Turn) (more : List Turn) (b : List Turn) (y : Option ℕ) → (IsOver s left r.state → ⊥) → IsAbsent s r.state turn.thread → Allows s left (GivenTurn index turn more) r b y → AreSame [] b (Some index) y
      absent_once left index r turn more b y going absent (Over o) = absurd (going o)
      absent_once left index r turn more b y going absent (Absent i t m going' absent') = (refl, refl)
      absent_once left index r turn more b y going absent (Halted other rest n next taken halted) = absurd (absent_taken left index r turn other more rest n absent next taken)
      absent_once left index r turn more b y going absent (Then other rest n behind bad next taken free k) = absurd (absent_taken left index r turn other more rest n absent next taken)
  allowed_once left ahead r a x b y (Halted turn rest n next taken halted) (Over o) = absurd (taken.going o)
  allowed_once left ahead r a x b y (Halted turn rest n next taken halted) (Absent index given more going absent) = absurd (absent_taken left index r given turn more rest n absent next taken)
  allowed_once left ahead r a x b y (Halted turn rest n next taken halted) (Halted other rest' m next' taken' halted') =
      let e = taken_once left ahead r turn other rest rest' n m next next' taken taken' in (same_kept left r turn other rest rest' n m e, refl)
  allowed_once left ahead r a x b y (Halted turn rest n next taken halted) (Then other rest' m more bad next' taken' free k) =
      absurd (halts_or_goes left r turn other rest rest' n m (taken_once left ahead r turn other rest rest' n m next next' taken taken') halted free)
  allowed_once left ahead r a x b y (Then turn rest n more bad next taken free h) (Over o) = absurd (taken.going o)
  allowed_once left ahead r a x b y (Then turn rest n more bad next taken free h) (Absent index given behind going absent) = absurd (absent_taken left index r given turn behind rest n absent next taken)
  allowed_once left ahead r a x b y (Then turn rest n more bad next taken free h) (Halted other rest' m next' taken' halted) =
      absurd (halts_or_goes left r other turn rest' rest m n (taken_once left ahead r other turn rest' rest m n next' next taken' taken) halted free)
  allowed_once left ahead r a x b y (Then turn rest n more bad next taken free h) (Then other rest' m more' bad' next' taken' free' k) =
      further left r turn other rest rest' n m more more' bad bad' (taken_once left ahead r turn other rest rest' n m next next' taken taken')
      (λ ys z j. allowed_once (left - n) rest (tries s turn.thread n r) more bad ys z h j) k

pub planned_once : {Event Place S : Type 0} (s : System Event Place S) (plan : Plan) (budget : ℕ) (a b : List Turn) → Planned s plan budget a → Planned s plan budget b → a ≡ b
planned_once s plan budget a b h k = (allowed_once s budget (at_first plan) (start s) a h.0 b k.0 h.1 k.1).0

module _ {Event Place S : Type 0} (s : System Event Place S) where
  -- the given turn with this index is ahead, and its thread isn't there
  abbrev IsAbsentAhead : Ahead → ℕ → S → Type 0
  IsAbsentAhead (GivenTurn index turn more) i x =
      (j : ℕ) × (index + j ≡ i) × (given : Turn) × (slice_get (turn ∷ more) j ≡ Some given) × IsAbsent s x given.thread
  IsAbsentAhead (Round quantum last) i x = ⊥

  -- the same, where there is a bad turn
  abbrev IsBadAhead : Ahead → Option ℕ → S → Type 0
  IsBadAhead ahead None x = Unit {0}
  IsBadAhead ahead (Some i) x = IsAbsentAhead ahead i x

  behind_given : (index : ℕ) (turn : Turn) (more : List Turn) (i : ℕ) (x : S) → IsAbsentAhead (given_from (suc index) more) i x → IsAbsentAhead (GivenTurn index turn more) i x
  behind_given index turn [] i x h = absurd h
  behind_given index turn (given ∷ more) i x h = (suc h.0, omega (arith, h.1), h.2, h.3, h.4)

  behind_next : (x y : S) (ahead : Ahead) (turn : Turn) (rest : Ahead) (bad : Option ℕ) → IsNext s x ahead turn rest → IsBadAhead rest bad y → IsBadAhead ahead bad y
  behind_next x y ahead turn rest None next h = tt
  behind_next x y (GivenTurn index given more) turn rest (Some i) next h = behind_given index given more i y (subst (λ a. IsAbsentAhead a i y) next.1 h)
  behind_next x y (Round quantum last) turn rest (Some i) next h = subst (λ a. IsAbsentAhead a i y) next.2 h

  behind_kept : (t n : ℕ) (more : List Turn) (r : Reached S) → run s (kept t n ++ more) r ≡ run s more (tries s t n r)
  behind_kept t zero more r = refl
  behind_kept t (suc n) more r = refl

  -- where a schedule ends, the thread of the bad turn isn't there
  allowed_bad : (left : ℕ) (ahead : Ahead) (r : Reached S) (schedule : List Turn) (bad : Option ℕ) → Allows s left ahead r schedule bad → IsBadAhead ahead bad (run s schedule r).state
  allowed_bad left ahead r schedule bad (Over over) = tt
  allowed_bad left ahead r schedule bad (Absent index turn more going absent) = (0, omega arith, turn, refl, absent)
  allowed_bad left ahead r schedule bad (Halted turn rest n next taken halted) = tt
  allowed_bad left ahead r schedule bad (Then turn rest n more bad' next taken free h) =
      let later = allowed_bad (left - n) rest (tries s turn.thread n r) more bad' h in
      subst (λ (q : Reached S). IsBadAhead ahead bad' q.state) (sym (behind_kept turn.thread n more r)) (behind_next r.state (run s more (tries s turn.thread n r)).state ahead turn rest bad' next later)

  bad_given : (turns : List Turn) (i : ℕ) (x : S) → IsAbsentAhead (given_from 0 turns) i x → (turn : Turn) × (slice_get turns i ≡ Some turn) × IsAbsent s x turn.thread
  bad_given [] i x h = absurd h
  bad_given (turn ∷ more) i x h =
      let e : h.0 ≡ i = omega (arith, h.1) in
      (h.2, subst (λ j. slice_get (turn ∷ more) j ≡ Some h.2) e h.3, h.4)

pub bad_turn_absent : {Event Place S : Type 0} (s : System Event Place S) (turns : List Turn) (budget i : ℕ) → IsBadTurn s turns budget i → (schedule : List Turn) → Planned s (Given turns) budget schedule → (turn : Turn) × (slice_get turns i ≡ Some turn) × IsAbsent s (reach s schedule).state turn.thread
bad_turn_absent s turns budget i bad schedule planned =
    let same : bad.0 ≡ schedule = (allowed_once s budget (at_first (Given turns)) (start s) bad.0 (Some i) schedule planned.0 bad.1 planned.1).0 in
    let there = allowed_bad s budget (given_from 0 turns) (start s) bad.0 (Some i) bad.1 in
    bad_given s turns i (reach s schedule).state (subst (λ ts. IsAbsentAhead s (given_from 0 turns) i (reach s ts).state) same there)
