-- Where each of finitely many threads waits for one of them, some wait in a cycle.
use Rattle.std.proofs.Common.{◌≡◌, ◌≢◌, ℕ, zero, suc, ◌+◌, ◌<◌, ◌≤◌, List, [], ◌∷◌, Bool, true, false, ◌||◌, ◌⊎◌, sym, subst, refl, inl, inr, ⊎_elim, nat_eq, length, arith, eqb-true, ne_eqb, true≢false}
use Rattle.std.proofs.lemmas.Bool.{cases_lt, eqb-false}
use Rattle.std.specs.List.{IsDistinct, AllByRecursion, list_any}
use Rattle.std.proofs.lemmas.Map.Steps.{length-le_from_distinct_below}
use Rattle.runs.specs.declared.turn.Turn.{Turn}
use Rattle.runs.specs.System.{AbsentHaveEnded, Ended, System, reach}
use Rattle.runs.specs.Waiting.{WaitsFor, Chain, IsCycle, HasCycles, WaitsForUnfinished}

flip : (a b : ℕ) → nat_eq a b ≡ false → nat_eq b a ≡ false
flip a b e = ne_eqb b a (λ same. eqb-false a b e (sym same))

-- v is none of these
abbrev pub Lacks : List ℕ → ℕ → Type 0
Lacks us v = AllByRecursion (λ u. nat_eq v u ≡ false) us

pub lacks_from_test : (u : ℕ) (vs : List ℕ) → list_any (nat_eq u) vs ≡ false → Lacks vs u
lacks_from_test u [] e = tt
lacks_from_test u (v ∷ vs) e = go (lacks_from_test u vs) (nat_eq u v) refl e
  where
    go : (list_any (nat_eq u) vs ≡ false → Lacks vs u) → (b : Bool) → nat_eq u v ≡ b → (b || list_any (nat_eq u) vs) ≡ false → Lacks (v ∷ vs) u
    go rest true at e = absurd (true≢false e)
    go rest false at e = (at, rest e)

flip_all : (t : ℕ) (vs : List ℕ) → Lacks vs t → AllByRecursion (λ v. nat_eq v t ≡ false) vs
flip_all t [] h = tt
flip_all t (v ∷ vs) h = (flip t v h.0, flip_all t vs h.1)

-- one more that none of vs is
apart_more : (t : ℕ) (us vs : List ℕ) → Lacks vs t → AllByRecursion (Lacks us) vs → AllByRecursion (Lacks (t ∷ us)) vs
apart_more t us [] h k = tt
apart_more t us (v ∷ vs) h k = ((flip t v h.0, k.0), apart_more t us vs h.1 k.1)

apart_one : (t : ℕ) (vs : List ℕ) → Lacks vs t → AllByRecursion (Lacks (t ∷ [])) vs
apart_one t [] h = tt
apart_one t (v ∷ vs) h = ((flip t v h.0, tt), apart_one t vs h.1)

-- a way from t back to one that was seen
record Way (R : ℕ → ℕ → Type 0) (t : ℕ) (vs : List ℕ) : Type 0 where
  over : List ℕ
  end : ℕ
  leads : Chain R t over end
  seen : list_any (nat_eq end) vs ≡ true
  distinct : IsDistinct nat_eq (t ∷ over)
  apart : AllByRecursion (Lacks (t ∷ over)) vs

module _ (R : ℕ → ℕ → Type 0) (Lives : ℕ → Type 0) (n : ℕ) (below : (t : ℕ) → Lives t → t < n) (onward : (t : ℕ) → Lives t → (u : ℕ) × R t u × Lives u) where
  on_from : (t u : ℕ) (vs : List ℕ) → R t u → Lacks vs t → ((ts : List ℕ) × IsCycle R ts) ⊎ Way R u (t ∷ vs) → ((ts : List ℕ) × IsCycle R ts) ⊎ Way R t vs
  unfolding IsDistinct
  on_from t u vs r new (inl c) = inl c
  on_from t u vs r new (inr w) = go (nat_eq w.end t) refl w.seen
    where
      go : (b : Bool) → nat_eq w.end t ≡ b → (b || list_any (nat_eq w.end) vs) ≡ true → ((ts : List ℕ) × IsCycle R ts) ⊎ Way R t vs
      go true e seen = inl (t ∷ u ∷ w.over, ((w.apart.0, w.distinct), (r, subst (Chain R u w.over) (eqb-true w.end t e) w.leads)))
      go false e seen = inr (record {
        over = u ∷ w.over;
        end = w.end;
        leads = (r, w.leads);
        seen = seen;
        distinct = (w.apart.0, w.distinct);
        apart = apart_more t (u ∷ w.over) vs new w.apart.1;
      })

  -- t and those that were seen are distinct and live
  walk : (fuel t : ℕ) (vs : List ℕ) → Lives t → Lacks vs t → IsDistinct nat_eq vs → ((q : ℕ) → list_any (nat_eq q) (t ∷ vs) ≡ true → q < n) → n ≤ fuel + length vs → ((ts : List ℕ) × IsCycle R ts) ⊎ Way R t vs
  unfolding IsDistinct
  walk zero t vs live new distinct all le =
      let short : length (t ∷ vs) ≤ n = length-le_from_distinct_below (t ∷ vs) n (new, distinct) all in
      absurd (omega arith)
  walk (suc fuel) t vs live new distinct all le = at_once (λ u v a b c d. walk fuel u (t ∷ vs) v a b c d) (nat_eq o.0 t) refl
    where
      o : (u : ℕ) × R t u × Lives u
      o = onward t live

      next_all : (q : ℕ) → list_any (nat_eq q) (o.0 ∷ t ∷ vs) ≡ true → q < n
      next_all q e = go (nat_eq q o.0) refl e
        where
          go : (b : Bool) → nat_eq q o.0 ≡ b → (b || list_any (nat_eq q) (t ∷ vs)) ≡ true → q < n
          go true at e = subst (λ z. z < n) (sym (eqb-true q o.0 at)) (below o.0 o.2)
          go false at e = all q e

      Further : Type 0
      Further = (u : ℕ) → Lives u → Lacks (t ∷ vs) u → IsDistinct nat_eq (t ∷ vs) → ((q : ℕ) → list_any (nat_eq q) (u ∷ t ∷ vs) ≡ true → q < n) → n ≤ fuel + length (t ∷ vs) → ((ts : List ℕ) × IsCycle R ts) ⊎ Way R u (t ∷ vs)

      seen : Further → (b : Bool) → list_any (nat_eq o.0) vs ≡ b → nat_eq o.0 t ≡ false → ((ts : List ℕ) × IsCycle R ts) ⊎ Way R t vs
      seen further true e ne = inr (record { over = []; end = o.0; leads = o.1; seen = e; distinct = (tt, tt); apart = apart_one t vs new })
      seen further false e ne = on_from t o.0 vs o.1 new (further o.0 o.2 (ne, lacks_from_test o.0 vs e) (new, distinct) next_all (omega arith))

      at_once : Further → (b : Bool) → nat_eq o.0 t ≡ b → ((ts : List ℕ) × IsCycle R ts) ⊎ Way R t vs
      at_once further true e = inl (t ∷ [], ((tt, tt), subst (R t) (eqb-true o.0 t e) o.1))
      at_once further false e = seen further (list_any (nat_eq o.0) vs) refl e

  none_seen : (t : ℕ) → Way R t [] → ⊥
  none_seen t w = true≢false (sym w.seen)

  one_below : (t : ℕ) → Lives t → (q : ℕ) → list_any (nat_eq q) (t ∷ []) ≡ true → q < n
  one_below t live q e = go (nat_eq q t) refl e
    where
      go : (b : Bool) → nat_eq q t ≡ b → (b || false) ≡ true → q < n
      go true at e = subst (λ z. z < n) (sym (eqb-true q t at)) (below t live)
      go false at e = absurd (true≢false (sym e))

  cycle_from : (t : ℕ) → Lives t → (ts : List ℕ) × IsCycle R ts
  unfolding IsDistinct
  cycle_from t live = ⊎_elim (λ c. c) (λ w. absurd (none_seen t w)) (walk n t [] live tt tt (one_below t live) (omega arith))

-- the law of cycles, from what each waiting thread waits for
pub law_of_cycles : {Event Place S : Type 0} (s : System Event Place S) → ((turns : List Turn) → AbsentHaveEnded s (reach s turns).state) → ((turns : List Turn) → WaitsForUnfinished s (reach s turns).state) → HasCycles s
law_of_cycles s absent waits turns all t ne =
    let x = (reach s turns).state in
    let there : (t : ℕ) → s.next x t ≢ Ended → t < s.threads x + 1 = λ t ne. ⊎_elim (λ past. absurd (ne (absent turns t (inr past)))) (λ le. omega arith) (cases_lt (s.threads x) t) in
    cycle_from (WaitsFor s x) (λ t. s.next x t ≢ Ended) (s.threads x + 1) there (λ t ne. waits turns all t ne) t ne
