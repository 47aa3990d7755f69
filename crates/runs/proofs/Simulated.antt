-- A simulation by single steps gives a refinement.
use Rattle.std.proofs.Common.{◌≡◌, ◌≢◌, ℕ, zero, suc, ◌+◌, ◌*◌, ◌<◌, ◌≤◌, List, [], ◌∷◌, ◌++◌, Bool, true, false, ◌∙◌, sym, subst, ap, refl, arith, ◌⊎◌, inl, inr, ⊎_elim, true≢false, mul-le-mul_left}
use Rattle.runs.specs.declared.turn.Turn.{Turn}
use Rattle.runs.specs.System.{Next, Goes, Waits, Ended, Stuck, System, Reached, moved, tried, tries, run, start, reach, one_more, IsReached}
use Rattle.runs.specs.Refines.{Follows, Refines}
use Rattle.runs.specs.Simulates.{Answer, Answered, AreReached, Begins, Comes, Pairs, Simulates}
use Rattle.runs.proofs.Planning.{moves_rise}
use Rattle.runs.proofs.Putting.{put-same, put-other, same_or_not}
use Rattle.runs.proofs.Reaching.{Went, went, reached_first, reached_goes, reached_comes}
use Rattle.runs.proofs.Replaying.{run-append}

-- moves of t alone answer
abbrev pub alone : {Event Place B : Type 0} (upper : System Event Place B) (Begun : ℕ → Type 0) (c t n i : ℕ) (x y : B) → n ≤ c → Comes upper t n i x y → Answer upper Begun c t x y
alone upper Begun c t n i x y few comes = record {
  moves = n;
  few = few;
  inits = i;
  between = y;
  up = comes;
  starts = 0;
  makes = 0;
  makes_few = omega arith;
  up_starts = (refl, refl);
  new = inl refl;
}

-- runs come to where an answer leads
pub answer_reached : {Event Place B : Type 0} (upper : System Event Place B) (Begun : ℕ → Type 0) (c t : ℕ) (x y : B) → Answer upper Begun c t x y → IsReached upper x → IsReached upper y
answer_reached upper Begun c t x y a reached =
    reached_comes upper a.starts a.makes 0 _ y a.up_starts (reached_comes upper t a.moves a.inits x _ a.up reached)

-- the rank of a thread that is there, and room for one that isn't
abbrev rank_if : Bool → ℕ → ℕ → ℕ
rank_if true c k = k
rank_if false c k = c

-- a thread that is there may have made up to c moves when it began
abbrev credit : Bool → ℕ → ℕ
credit true c = c
credit false c = 0

-- the arithmetic of one step, for the thread that makes it
step_bound : (c l k k' um ui m i um' : ℕ) → l + k ≤ c + (c + 1) * um + c * ui → (m ≡ 0 → k' < k) → k' ≤ k + c * m → um + m ≤ um' → suc l + k' ≤ c + (c + 1) * um' + c * (ui + i)
step_bound c l k k' um ui zero i um' h falls rises more =
    let f : k' < k = falls refl in
    let le : (c + 1) * um ≤ (c + 1) * um' = mul-le-mul_left (c + 1) (omega (arith, more)) in
    omega arith
step_bound c l k k' um ui (suc m) i um' h falls rises more =
    let le : (c + 1) * (um + suc m) ≤ (c + 1) * um' = mul-le-mul_left (c + 1) more in
    omega arith

-- and for another
other_bound : (c l k k' um ui i um' : ℕ) → l + k ≤ c + (c + 1) * um + c * ui → k' ≤ k + c * i → um ≤ um' → l + k' ≤ c + (c + 1) * um' + c * (ui + i)
other_bound c l k k' um ui i um' h rises more =
    let le : (c + 1) * um ≤ (c + 1) * um' = mul-le-mul_left (c + 1) more in
    omega arith

module _ {Event Place A B W : Type 0} (lower : System Event Place A) (upper : System Event Place B) (pairs : Pairs A B W) (there : A → ℕ → Bool) (c : ℕ) (sim : Simulates lower upper pairs there c) where
  -- what holds between a lower run and the upper one that answers it
  record Keeps (w : W) (l : Reached A) (u : Reached B) : Type 0 where
    low : l.state ≡ pairs.low w
    up : u.state ≡ pairs.up w
    reached : AreReached lower upper pairs w
    steps : (t : ℕ) → l.moves t + rank_if (there (pairs.low w) t) c (pairs.rank w t) ≤ c + (c + 1) * u.moves t + c * u.inits
    moves : (t : ℕ) → u.moves t ≤ c * l.moves t + credit (there (pairs.low w) t) c
    inits : l.inits ≤ u.inits

  -- there is an upper run that answers
  abbrev Answers : Reached A → Reached B → Type 0
  Answers l u = (above : List Turn) × (w : W) × Keeps w l (run upper above u)

  module _ (t : ℕ) (w : W) (x : A) (l : Reached A) (u : Reached B) (k : Keeps w l u) (goes : lower.next (pairs.low w) t ≡ Goes x) (step : Answered lower upper pairs there c w t x) where
    abbrev a : Answer upper (Begins there (pairs.low w) x) c t (pairs.up w) (pairs.up step.next)
    a = step.answer

    abbrev u1 : Reached B
    u1 = tries upper t a.moves u

    abbrev u2 : Reached B
    u2 = tries upper a.starts a.makes u1

    g1 : Went t a.moves a.inits u a.between u1
    g1 = went upper t a.moves a.inits u a.between (subst (λ y. Comes upper t a.moves a.inits y a.between) (sym k.up) a.up)

    g2 : Went a.starts a.makes 0 u1 (pairs.up step.next) u2
    g2 = went upper a.starts a.makes 0 u1 (pairs.up step.next) (subst (λ y. Comes upper a.starts a.makes 0 y (pairs.up step.next)) (sym g1.state) a.up_starts)

    before : there (pairs.low w) t ≡ true
    before = sim.moves_there w t x goes

    stays : (v : ℕ) → there (pairs.low w) v ≡ true → there (pairs.low step.next) v ≡ true
    stays v is = subst (λ y. there y v ≡ true) (sym step.low) (sim.stays_there w t x goes v is)

    rise : (v : ℕ) → u1.moves v ≤ u2.moves v
    rise v = ⊎_elim (λ e. subst (λ v. u1.moves v ≤ u2.moves v) (sym e) (moves_rise upper a.starts a.makes u1)) (λ ne. omega (arith, g2.other v ne)) (same_or_not v a.starts)

    ui : u2.inits ≡ u.inits + a.inits
    ui = omega (arith, g2.inits, g1.inits)

    steps_t : one_more t l.moves t + rank_if (there (pairs.low step.next) t) c (pairs.rank step.next t) ≤ c + (c + 1) * u2.moves t + c * u2.inits
    steps_t =
        let old : l.moves t + pairs.rank w t ≤ c + (c + 1) * u.moves t + c * u.inits = subst (λ b. l.moves t + rank_if b c (pairs.rank w t) ≤ c + (c + 1) * u.moves t + c * u.inits) before (k.steps t) in
        let more : u.moves t + a.moves ≤ u2.moves t = omega (arith, g1.same, rise t) in
        rw (put-same t (suc (l.moves t)) l.moves, stays t before, ui) (step_bound c (l.moves t) (pairs.rank w t) (pairs.rank step.next t) (u.moves t) u.inits a.moves a.inits (u2.moves t) old step.falls step.rises more)

    rank_other : (v : ℕ) → v ≢ t → (b : Bool) → there (pairs.low w) v ≡ b → (d : Bool) → there (pairs.low step.next) v ≡ d → rank_if d c (pairs.rank step.next v) ≤ rank_if b c (pairs.rank w v) + c * a.inits
    rank_other v ne true is true now = step.others v ne is
    rank_other v ne true is false now = absurd (true≢false (sym (stays v is) ∙ now))
    rank_other v ne false is true now = let le = step.begun v (is, subst (λ y. there y v ≡ true) step.low now) in omega (arith, le)
    rank_other v ne false is false now = omega arith

    steps_other : (v : ℕ) → v ≢ t → one_more t l.moves v + rank_if (there (pairs.low step.next) v) c (pairs.rank step.next v) ≤ c + (c + 1) * u2.moves v + c * u2.inits
    steps_other v ne =
        let more : u.moves v ≤ u2.moves v = omega (arith, g1.other v ne, rise v) in
        rw (put-other t (suc (l.moves t)) l.moves v ne, ui) (other_bound c (l.moves v) _ _ (u.moves v) u.inits a.inits (u2.moves v) (k.steps v) (rank_other v ne _ refl _ refl) more)

    -- the thread that steps is not one that begins
    gains_t : (a.makes ≡ 0) ⊎ Begins there (pairs.low w) x a.starts → u2.moves t ≡ u1.moves t
    gains_t (inl z) = ap (λ n. (tries upper a.starts n u1).moves t) z
    gains_t (inr n) = g2.other t (λ e. true≢false (sym before ∙ ap (there (pairs.low w)) e ∙ n.0))

    moves_t : u2.moves t ≤ c * one_more t l.moves t + credit (there (pairs.low step.next) t) c
    moves_t =
        let old : u.moves t ≤ c * l.moves t + c = subst (λ b. u.moves t ≤ c * l.moves t + credit b c) before (k.moves t) in
        rw (put-same t (suc (l.moves t)) l.moves, stays t before, gains_t a.new, g1.same) (omega (arith, old, a.few))

    credit_rises : (v : ℕ) (b : Bool) → there (pairs.low w) v ≡ b → (d : Bool) → there (pairs.low step.next) v ≡ d → credit b c ≤ credit d c
    credit_rises v true is true now = omega arith
    credit_rises v true is false now = absurd (true≢false (sym (stays v is) ∙ now))
    credit_rises v false is d now = omega arith

    moves_start : (v : ℕ) → v ≢ t → v ≡ a.starts → (a.makes ≡ 0) ⊎ Begins there (pairs.low w) x a.starts → u2.moves v ≤ c * l.moves v + credit (there (pairs.low step.next) v) c
    moves_start v ne e (inl z) =
        let same : u2.moves v ≡ u1.moves v = ap (λ n. (tries upper a.starts n u1).moves v) z in
        omega (arith, same, g1.other v ne, k.moves v, credit_rises v _ refl _ refl)
    moves_start v ne e (inr n) =
        let old : u.moves v ≤ c * l.moves v + 0 = subst (λ b. u.moves v ≤ c * l.moves v + credit b c) (ap (there (pairs.low w)) e ∙ n.0) (k.moves v) in
        let gain : u2.moves v ≡ u1.moves v + a.makes = subst (λ s. u2.moves s ≡ u1.moves s + a.makes) (sym e) g2.same in
        let now : there (pairs.low step.next) v ≡ true = subst (λ y. there y v ≡ true) (sym step.low) (ap (there x) e ∙ n.1) in
        rw now (omega (arith, old, gain, g1.other v ne, a.makes_few))

    moves_other : (v : ℕ) → v ≢ t → u2.moves v ≤ c * one_more t l.moves v + credit (there (pairs.low step.next) v) c
    moves_other v ne = rw (put-other t (suc (l.moves t)) l.moves v ne) (⊎_elim
        (λ e. moves_start v ne e a.new)
        (λ other. omega (arith, g2.other v other, g1.other v ne, k.moves v, credit_rises v _ refl _ refl))
        (same_or_not v a.starts))

    stepped : Keeps step.next (moved l t (lower.inits l.state t) (Goes x)) u2
    stepped = record {
      low = sym step.low;
      up = g2.state;
      reached = (rw step.low (reached_goes lower (pairs.low w) x t goes k.reached.0), answer_reached upper _ c t _ _ a k.reached.1);
      steps = λ v. ⊎_elim (λ e. subst (λ v. one_more t l.moves v + rank_if (there (pairs.low step.next) v) c (pairs.rank step.next v) ≤ c + (c + 1) * u2.moves v + c * u2.inits) (sym e) steps_t) (steps_other v) (same_or_not v t);
      moves = λ v. ⊎_elim (λ e. subst (λ v. u2.moves v ≤ c * one_more t l.moves v + credit (there (pairs.low step.next) v) c) (sym e) moves_t) (moves_other v) (same_or_not v t);
      inits = rw (g2.inits, g1.inits, k.low) (omega (arith, k.inits, step.no_more_inits));
    }

  answer_try : (t : ℕ) (w : W) (l : Reached A) (u : Reached B) → Keeps w l u → Answers (tried lower t l) u
  answer_try t w l u k = go (lower.next l.state t) refl
    where
      go : (n : Next A) → lower.next l.state t ≡ n → Answers (moved l t (lower.inits l.state t) n) u
      go (Goes x) e =
          let e' : lower.next (pairs.low w) t ≡ Goes x = subst (λ y. lower.next y t ≡ Goes x) k.low e in
          let step = sim.step w k.reached t x e' in
          (record { thread = t; count = step.answer.moves } ∷ record { thread = step.answer.starts; count = step.answer.makes } ∷ [], step.next, stepped t w x l u k e' step)
      go Waits e = ([], w, k)
      go Ended e = ([], w, k)
      go Stuck e = ([], w, k)

  also : (l : Reached A) (u : Reached B) (xs : List Turn) → Answers l (run upper xs u) → Answers l u
  also l u xs a = (xs ++ a.0, a.1, rw (run-append upper xs a.0 u) a.2)

  answer_tries : (t n : ℕ) (w : W) (l : Reached A) (u : Reached B) → Keeps w l u → Answers (tries lower t n l) u
  answer_tries t zero w l u k = ([], w, k)
  answer_tries t (suc n) w l u k = let a = answer_try t w l u k in also _ u a.0 (answer_tries t n a.1 (tried lower t l) (run upper a.0 u) a.2)

  answer_run : (turns : List Turn) (w : W) (l : Reached A) (u : Reached B) → Keeps w l u → Answers (run lower turns l) u
  answer_run [] w l u k = ([], w, k)
  answer_run (turn ∷ turns) w l u k = let a = answer_tries turn.thread turn.count w l u k in also _ u a.0 (answer_run turns a.1 _ (run upper a.0 u) a.2)

  first_ranked : (t : ℕ) (b : Bool) → there (pairs.low sim.first) t ≡ b → rank_if b c (pairs.rank sim.first t) ≤ c
  first_ranked t true is = sim.first_rank t (subst (λ x. there x t ≡ true) sim.first_low is)
  first_ranked t false is = omega arith

  kept_first : Keeps sim.first (start lower) (start upper)
  kept_first = record {
    low = sym sim.first_low;
    up = sym sim.first_up;
    reached = (rw sim.first_low (reached_first lower), rw sim.first_up (reached_first upper));
    steps = λ t. omega (arith, first_ranked t _ refl);
    moves = λ t. omega arith;
    inits = omega arith;
  }

  bounded : (b : Bool) → credit b c ≤ c
  bounded true = omega arith
  bounded false = omega arith

  follows : (w : W) (l : Reached A) (u : Reached B) → Keeps w l u → Follows lower upper (c + 1) l u
  follows w l u k = record {
    states = rw (k.low, k.up) (sim.agree w k.reached);
    pace = record { steps = λ t. omega (arith, k.steps t); moves = λ t. omega (arith, k.moves t, bounded (there (pairs.low w) t)) };
    inits = k.inits;
  }

  -- each state that the lower system comes to is the lower one of a pair whose states are both reached
  pub reached_pair : (turns : List Turn) → (w : W) × AreReached lower upper pairs w × ((reach lower turns).state ≡ pairs.low w)
  reached_pair turns = let a = answer_run turns sim.first (start lower) (start upper) kept_first in (a.1, a.2.reached, a.2.low)

  pub simulation_refines : Refines lower upper (c + 1)
  simulation_refines = record {
    run = λ turns. let a = answer_run turns sim.first (start lower) (start upper) kept_first in (a.0, follows a.1 _ _ a.2);
  }
