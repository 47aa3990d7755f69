-- The circle of threads.
use Rattle.std.proofs.Common.{◌≡◌, ℕ, ◌+◌, ◌-◌, ◌*◌, ◌/◌, ◌%◌, ◌<◌, ◌≤◌, ◌⊎◌, sym, subst, arith, ap, ◌∙◌, ⊎_elim, inl, inr}
use Rattle.std.proofs.lemmas.Bool.{cases_lt, cases_eq}
use Rattle.std.proofs.lemmas.Nat.{mod-mul-add, div-add-mod', mod_below}
use Rattle.runs.specs.declared.next_step.NextStep.{NextStep}
use Rattle.runs.specs.declared.next_step.NextStep.TheVariants
use Rattle.runs.specs.System.{AbsentHaveEnded, Next, Goes, Waits, Ended, Stuck, System}
use Rattle.runs.specs.Planned.{Moves, NoneMoves, Rests, in_circle, ComesNext}
use Rattle.runs.specs.Trying.{able}
use Rattle.runs.proofs.Determined.{moves_rests}

-- a remainder that goes on by k, and one that comes round
on : (m k n : ℕ) → m % n + k < n → (m + k) % n ≡ m % n + k
on m k n lt =
    let whole : m / n * n + m % n ≡ m = div-add-mod' m n in
    let e : m + k ≡ m / n * n + (m % n + k) = omega (arith, whole) in
    ap (λ j. j % n) e ∙ mod-mul-add (m / n) n (m % n + k) lt

round : (m k n b : ℕ) → m % n + k ≡ n + b → b < n → (m + k) % n ≡ b
round m k n b is lt =
    let whole : m / n * n + m % n ≡ m = div-add-mod' m n in
    let more : (m / n + 1) * n ≡ m / n * n + n = omega arith in
    let e : m + k ≡ (m / n + 1) * n + b = omega (arith, whole, more) in
    ap (λ j. j % n) e ∙ mod-mul-add (m / n + 1) n b lt

-- each of n threads stands somewhere in the circle
pub stands : (n t u : ℕ) → 1 ≤ u → u ≤ n → (d : ℕ) × (1 ≤ d) × (d ≤ n) × (in_circle n t d ≡ u)
stands n t u low high =
    let below : t % n < n = mod_below t n (let pos : 0 < n = omega arith in pos) in
    ⊎_elim
    (λ (lt : t % n < u).
    let d : ℕ = u - t % n in
    let back : t + d - 1 ≡ t + (d - 1) = omega arith in
    let there : (t + (d - 1)) % n ≡ t % n + (d - 1) = on t (d - 1) n (omega arith) in
    let found : (t + d - 1) % n + 1 ≡ u = rw back (omega (arith, there)) in
    (d, omega arith, omega arith, found))
    (λ (ge : u ≤ t % n).
    let d : ℕ = u + n - t % n in
    let back : t + d - 1 ≡ t + (d - 1) = omega arith in
    let there : (t + (d - 1)) % n ≡ u - 1 = round t (d - 1) n (u - 1) (omega arith) (omega arith) in
    let found : (t + d - 1) % n + 1 ≡ u = rw back (omega (arith, there)) in
    (d, omega arith, omega arith, found))
    (cases_lt (t % n) u)

rests_told : {S : Type 0} (n : Next S) (a : NextStep) → a ≡ able n → (a ≡ TheVariants.Waits) ⊎ (a ≡ TheVariants.Ended) → Rests n
rests_told (Goes x) a is e = absurd (⊎_elim (λ f. cc) (λ f. cc) e)
rests_told Waits a is e = tt
rests_told Ended a is e = tt
rests_told Stuck a is e = absurd (⊎_elim (λ f. cc) (λ f. cc) e)

busy_told : {S : Type 0} (n : Next S) (a : NextStep) → a ≡ able n → (a ≡ TheVariants.Moves) ⊎ (a ≡ TheVariants.Stuck) → Rests n → ⊥
busy_told (Goes x) a is e r = r
busy_told Waits a is e r = absurd (⊎_elim (λ f. cc) (λ f. cc) e)
busy_told Ended a is e r = absurd (⊎_elim (λ f. cc) (λ f. cc) e)
busy_told Stuck a is e r = r

-- the first k in the circle after t rest, and the next one looked at is the thread `before + 1`
pub record Passed {Event Place S : Type 0} (s : System Event Place S) (x : S) (n t k before : ℕ) : Type 0 where
  pub at : before ≡ (t + k) % n
  pub rest : (e : ℕ) → 1 ≤ e → e < k + 1 → Rests (s.next x (in_circle n t e))

module _ {Event Place S : Type 0} (s : System Event Place S) (x : S) (n t : ℕ) where
  pub passed_none : (before : ℕ) → before ≡ t % n → Passed s x n t 0 before
  passed_none before is = record { at = let e : t + 0 ≡ t = omega arith in rw e is; rest = λ e low high. absurd (omega arith) }

  looked_at : (k before : ℕ) → Passed s x n t k before → before + 1 ≡ in_circle n t (k + 1)
  looked_at k before h = let e : t + (k + 1) - 1 ≡ t + k = omega arith in rw e (let at = h.at in omega arith)

  -- the one that is looked at rests too
  rest_more : (k before : ℕ) → Passed s x n t k before → Rests (s.next x (before + 1)) → (e : ℕ) → 1 ≤ e → e < k + 1 + 1 → Rests (s.next x (in_circle n t e))
  rest_more k before h here e low high =
      ⊎_elim
      (λ same. subst (λ w. Rests (s.next x w)) (looked_at k before h ∙ ap (in_circle n t) (sym same)) here)
      (λ ne. h.rest e low (omega arith))
      (cases_eq e (k + 1))

  pub passed_on : (k before : ℕ) (a : NextStep) → Passed s x n t k before → before + 1 < n → a ≡ able (s.next x (before + 1)) → (a ≡ TheVariants.Waits) ⊎ (a ≡ TheVariants.Ended) → Passed s x n t (k + 1) (before + 1)
  passed_on k before a h lt told e = record {
    at =
        let at = h.at in
        let sum : t + (k + 1) ≡ t + k + 1 = omega arith in
        let step : (t + k + 1) % n ≡ (t + k) % n + 1 = on (t + k) 1 n (omega arith) in
        rw sum (omega arith);
    rest = rest_more k before h (rests_told (s.next x (before + 1)) a told e);
  }

  pub passed_round : (k before : ℕ) (a : NextStep) → Passed s x n t k before → before + 1 ≡ n → a ≡ able (s.next x (before + 1)) → (a ≡ TheVariants.Waits) ⊎ (a ≡ TheVariants.Ended) → Passed s x n t (k + 1) 0
  passed_round k before a h all told e = record {
    at =
        let at = h.at in
        let sum : t + (k + 1) ≡ t + k + 1 = omega arith in
        let step : (t + k + 1) % n ≡ 0 = round (t + k) 1 n 0 (omega arith) (omega arith) in
        rw sum (sym step);
    rest = rest_more k before h (rests_told (s.next x (before + 1)) a told e);
  }

  pub comes : (k before : ℕ) (a : NextStep) → n ≡ s.threads x → k < n → Passed s x n t k before → a ≡ able (s.next x (before + 1)) → (a ≡ TheVariants.Moves) ⊎ (a ≡ TheVariants.Stuck) → ComesNext s x t (before + 1)
  comes k before a is lt h told e =
      let there : (d : ℕ) × (1 ≤ d) × (d ≤ s.threads x) × (before + 1 ≡ in_circle (s.threads x) t d) × ((e : ℕ) → 1 ≤ e → e < d → Rests (s.next x (in_circle (s.threads x) t e))) =
      subst (λ m. (d : ℕ) × (1 ≤ d) × (d ≤ m) × (before + 1 ≡ in_circle m t d) × ((e : ℕ) → 1 ≤ e → e < d → Rests (s.next x (in_circle m t e)))) is
      (k + 1, omega arith, omega arith, looked_at k before h, h.rest) in
      (there.0, there.1, there.2, there.3, there.4, busy_told (s.next x (before + 1)) a told e)

  -- where all in the circle rest, none moves
  pub all_rest : (k before : ℕ) → n ≡ s.threads x → n ≤ k → AbsentHaveEnded s x → Passed s x n t k before → NoneMoves s x
  all_rest k before is le others h u moves =
      let other : (u ≡ 0) ⊎ (s.threads x < u) → ⊥ = λ o. let ended : s.next x u ≡ Ended = others u o in subst Moves ended moves in
      ⊎_elim
      (λ none. other (inl (omega arith)))
      (λ pos. ⊎_elim
      (λ past. other (inr (omega arith)))
      (λ within.
      let d = stands n t u pos within in
      moves_rests (s.next x u) moves (subst (λ w. Rests (s.next x w)) d.3 (h.rest d.0 d.1 (let high = d.2 in omega arith))))
      (cases_lt n u))
      (cases_lt u 1)

  -- where there is no thread, none moves
  pub none_there : n ≡ s.threads x → n ≡ 0 → AbsentHaveEnded s x → NoneMoves s x
  none_there is zero_threads others u moves =
      let o : (u ≡ 0) ⊎ (s.threads x < u) = ⊎_elim (λ none. inl (omega arith)) (λ pos. inr (omega arith)) (cases_lt u 1) in
      let ended : s.next x u ≡ Ended = others u o in
      subst Moves ended moves
