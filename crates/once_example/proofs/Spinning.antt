-- A reader that spins keeps no pace.
use Rattle.std.proofs.Common.{◌≡◌, ℕ, zero, suc, ◌+◌, ◌*◌, ◌<◌, ◌≤◌, List, [], ◌∷◌, Bool, true, false, ◌⊎◌, ◌∙◌, sym, ap, subst, refl, inl, inr, ⊎_elim, nat_le, ◌&&◌, if◌then◌else◌, arith, mul-le-mul_left}
use Rattle.runs.specs.declared.turn.Turn.{Turn}
use Rattle.runs.specs.System.{KeptBy, System, Reached, one_more, moved, put, tried, tries, run, start, reach}
use Rattle.runs.specs.Refines.{Refines}
use Rattle.runs.proofs.Putting.{same_or_not, put-same, put-other}
use Rattle.once_example.specs.Upper.{Cell, Empty, Running, Done, Task, Reads, Inside, Tells, State, move, inits, upper}
use Rattle.once_example.specs.Lower.{State as Below, Evaluating, Look, goes}
use Rattle.once_example.specs.Wrong.{spins, with_step}
use Rattle.once_example.proofs.Once.{busy}
use Rattle.once_example.proofs.Above.{Sound, kept, in_range, task_busy, sound}
use Rattle.once_example.proofs.Refuted.{between}

abbrev low : System (ℕ × ℕ) (Unit {0}) Below
low = with_step spins (λ t. 1) 2 1

abbrev up : System (ℕ × ℕ) (Unit {0}) State
up = upper (λ t. 1) 2 1

record Spin (m : ℕ) (r : Reached Below) : Type 0 where
  at : r.state.positions 2 ≡ Look 1
  field : r.state.field ≡ Evaluating
  made : r.moves 2 ≡ m

spin_one : (m : ℕ) (r : Reached Below) → Spin m r → Spin (suc m) (tried low 2 r)
spin_one m r h =
    let next : spins (λ t. 1) r.state 2 (r.state.positions 2) r.state.field ≡ goes r.state 2 (Look 1) = rw (h.at, h.field) refl in
    subst (λ n. Spin (suc m) (moved r 2 0 n)) (sym next) (record { at = put-same 2 (Look 1) r.state.positions; field = h.field; made = put-same 2 (suc (r.moves 2)) r.moves ∙ ap (λ k. suc k) h.made })

spin_many : (k m : ℕ) (r : Reached Below) → Spin m r → Spin (k + m) (tries low 2 k r)
spin_many zero m r h = let e : 0 + m ≡ m = omega arith in rw e h
spin_many (suc k) m r h = let e : suc k + m ≡ k + suc m = omega arith in rw e (spin_many k (suc m) (tried low 2 r) (spin_one m r h))

-- the moves that a thread has left
abbrev left : Task → ℕ
left (Reads n) = 3 * n
left (Inside n) = 3 * n + 2
left (Tells n said) = 3 * n + 1

record Few (r : Reached State) : Type 0 where
  few : (u : ℕ) → r.moves u + left (r.state.tasks u) ≤ 3
  all : r.inits ≤ r.moves 1 + r.moves 2
  safe : Sound 2 r.state

few_goes : (r : Reached State) (t i : ℕ) (task : Task) (y : State) → Few r → left task < left (r.state.tasks t) → i ≤ 1 → (t ≡ 1) ⊎ (t ≡ 2) → y.tasks ≡ put t task r.state.tasks → Sound 2 y → Few (record { state = y; moves = one_more t r.moves; inits = r.inits + i })
few_goes r t i task y h less one which tasks safe = record { few = few; all = all which; safe = safe }
  where
    few : (u : ℕ) → one_more t r.moves u + left (y.tasks u) ≤ 3
    few u = ⊎_elim
        (λ e. subst (λ v. one_more t r.moves v + left (y.tasks v) ≤ 3) {x = t} {y = u} (sym e) (let a : y.tasks t ≡ task = ap (λ f. f t) tasks ∙ put-same t task r.state.tasks in rw (put-same t (suc (r.moves t)) r.moves, a) (omega (arith, less, h.few t))))
        (λ ne. let a : y.tasks u ≡ r.state.tasks u = ap (λ f. f u) tasks ∙ put-other t task r.state.tasks u ne in rw (put-other t (suc (r.moves t)) r.moves u ne, a) (h.few u))
        (same_or_not u t)

    all : (t ≡ 1) ⊎ (t ≡ 2) → r.inits + i ≤ one_more t r.moves 1 + one_more t r.moves 2
    all (inl e) =
        let a : one_more t r.moves 1 ≡ suc (r.moves 1) = ap (λ t. one_more t r.moves 1) e in
        let b : one_more t r.moves 2 ≡ r.moves 2 = ap (λ t. one_more t r.moves 2) e in
        omega (arith, a, b, h.all)
    all (inr e) =
        let a : one_more t r.moves 1 ≡ r.moves 1 = ap (λ t. one_more t r.moves 1) e in
        let b : one_more t r.moves 2 ≡ suc (r.moves 2) = ap (λ t. one_more t r.moves 2) e in
        omega (arith, a, b, h.all)

one_of_two : (s : State) → Sound 2 s → (t : ℕ) → busy (s.tasks t) ≡ true → (t ≡ 1) ⊎ (t ≡ 2)
one_of_two s h t b =
    let at = between 2 t (in_range (λ t. 1) 2 1 s h t (task_busy (λ t. 1) 2 (s.tasks t) b)) in
    ⊎_elim inl (λ ne. inr (omega arith)) (same_or_not t 1)

few_tried : (t : ℕ) (r : Reached State) → Few r → Few (tried up t r)
few_tried t r h = go (r.state.tasks t) r.state.cell refl refl (kept (λ t. 1) 2 r.state t h.safe (r.state.tasks t) r.state.cell refl refl)
  where
    go : (task : Task) (cell : Cell) → r.state.tasks t ≡ task → r.state.cell ≡ cell → KeptBy (Sound 2) (move (λ t. 1) r.state t task cell) → Few (moved r t (inits task cell) (move (λ t. 1) r.state t task cell))
    go (Reads zero) cell e c k = h
    go (Reads (suc m)) Empty e c k = few_goes r t 1 (Inside m) _ h (let l = ap left e in omega arith) (omega arith) (one_of_two r.state h.safe t (ap busy e)) refl k
    go (Reads (suc m)) (Running u) e c k = h
    go (Reads (suc m)) (Done v) e c k = few_goes r t 0 (Tells m (suc v)) _ h (let l = ap left e in omega arith) (omega arith) (one_of_two r.state h.safe t (ap busy e)) refl k
    go (Inside m) cell e c k = few_goes r t 1 (Tells m 1) _ h (let l = ap left e in omega arith) (omega arith) (one_of_two r.state h.safe t (ap busy e)) refl k
    go (Tells m said) cell e c k = few_goes r t 0 (Reads m) _ h (let l = ap left e in omega arith) (omega arith) (one_of_two r.state h.safe t (ap busy e)) refl k

few_tries : (t n : ℕ) (r : Reached State) → Few r → Few (tries up t n r)
few_tries t zero r h = h
few_tries t (suc n) r h = few_tries t n (tried up t r) (few_tried t r h)

few_run : (turns : List Turn) (r : Reached State) → Few r → Few (run up turns r)
few_run [] r h = h
few_run (turn ∷ turns) r h = few_run turns _ (few_tries turn.thread turn.count r h)

first_few : (b : Bool) → left (if b then Reads 1 else Reads 0) ≤ 3
first_few true = omega arith
first_few false = omega arith

pub no_pace : (b : ℕ) → Refines low up b → ⊥
no_pace b h =
    let k = 10 * b + 1 in
    let a = h.run (record { thread = 1; count = 2 } ∷ record { thread = 2; count = k } ∷ []) in
    let s = spin_many k 0 (tries low 1 2 (start low)) (record { at = refl; field = refl; made = refl }) in
    let f = few_run a.0 (start up) (record { few = λ u. let x = first_few (nat_le 1 u && nat_le u 2) in omega (arith, x); all = omega arith; safe = sound (λ t. 1) 2 1 [] }) in
    let x1 = f.few 1 in
    let x2 = f.few 2 in
    let paced = a.1.pace.steps 2 in
    let bound : 1 + (reach up a.0).moves 2 + (reach up a.0).inits ≤ 10 = omega (arith, x1, x2, f.all) in
    let most : b * (1 + (reach up a.0).moves 2 + (reach up a.0).inits) ≤ b * 10 = mul-le-mul_left b bound in
    absurd (omega (arith, paced, most, s.made))
