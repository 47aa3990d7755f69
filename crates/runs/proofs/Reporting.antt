-- Cycles in a table of waits, and the one that is reported.
use Rattle.std.proofs.Common.{◌≡◌, ◌≢◌, ℕ, zero, suc, ◌+◌, ◌-◌, ◌<◌, ◌≤◌, ◌⊎◌, ◌||◌, List, [], ◌∷◌, ◌++◌, Option, Bool, true, false, nat_eq, eqb-true, ne_eqb, eq-eqb, true≢false, refl, sym, subst, arith, ap, ◌∙◌, ⊎_elim, inl, inr}
use Rattle.std.proofs.lemmas.Bool.{eqb-false}
use Rattle.std.proofs.lemmas.List.Elements.{All-from_recursion}
use Rattle.std.proofs.lemmas.Map.Keys.{IsDistinct-push, IsDistinct-head}
use Rattle.std.specs.Cmp.{IsEquivalence}
use Rattle.std.specs.List.{IsDistinct, All, AllByRecursion, list_any}
use Rattle.runs.specs.Waiting.{Chain, IsCycle}
use Rattle.runs.specs.WaitTable.{awaited_by, IsAwaited, NoCycle, IsReported, IsCycleFrom}
use Rattle.runs.specs.Walks.{Leads, Returns, NoneReturns, IsLeastOfAll}
use Rattle.runs.proofs.LeastCycles.{least_of_relation}
use Rattle.runs.proofs.Walkways.{leads_more, leads_add, leads_once, comes_back, some_once}

same_numbers : IsEquivalence nat_eq
same_numbers = record {
  refl = λ x. eq-eqb x x refl;
  symm = λ x y. flips x y (nat_eq x y) refl;
  congr = λ x y z e. ap (λ w. nat_eq w z) (eqb-true x y e);
}
  where
    flips : (x y : ℕ) (b : Bool) → nat_eq x y ≡ b → nat_eq x y ≡ nat_eq y x
    flips x y true e = e ∙ sym (eq-eqb y x (sym (eqb-true x y e)))
    flips x y false e = e ∙ sym (ne_eqb y x (λ f. eqb-false x y e (sym f)))

-- t is in the list
abbrev Has : List ℕ → ℕ → Type 0
Has ts t = list_any (nat_eq t) ts ≡ true

has_cons : (t u : ℕ) (us : List ℕ) → Has (u ∷ us) t → (t ≡ u) ⊎ Has us t
has_cons t u us h = go (nat_eq t u) refl h
  where
    go : (b : Bool) → nat_eq t u ≡ b → (b || list_any (nat_eq t) us) ≡ true → (t ≡ u) ⊎ Has us t
    go true e h = inl (eqb-true t u e)
    go false e h = inr h

has_head : (t u : ℕ) (us : List ℕ) → t ≡ u → Has (u ∷ us) t
has_head t u us e = let f : nat_eq t u ≡ true = eq-eqb t u e in rw f refl

has_tail : (t u : ℕ) (us : List ℕ) → Has us t → Has (u ∷ us) t
has_tail t u us h = go (nat_eq t u)
  where
    go : (b : Bool) → (b || list_any (nat_eq t) us) ≡ true
    go true = refl
    go false = h

lacks : (t : ℕ) (ts : List ℕ) → AllByRecursion (λ u. nat_eq t u ≡ false) ts → Has ts t → ⊥
lacks t [] apart h = true≢false (sym h)
lacks t (u ∷ us) apart h = ⊎_elim (λ (e : t ≡ u). eqb-false t u apart.0 e) (λ (on : Has us t). lacks t us apart.1 on) (has_cons t u us h)

-- t leads through these to the last of them
abbrev Path : List (Option ℕ) → ℕ → List ℕ → ℕ → Type 0
Path table t [] end = t ≡ end
Path table t (u ∷ us) end = IsAwaited table t u × Path table u us end

module _ (table : List (Option ℕ)) where
  path_more : (t : ℕ) (ts : List ℕ) (at next : ℕ) → Path table t ts at → IsAwaited table at next → Path table t (ts ++ next ∷ []) next
  path_more t [] at next p e = (subst (λ w. IsAwaited table w next) (sym p) e, refl)
  path_more t (u ∷ us) at next p e = (p.0, path_more u us at next p.1 e)

  path_chain : (t : ℕ) (ts : List ℕ) (at end : ℕ) → Path table t ts at → IsAwaited table at end → Chain (IsAwaited table) t ts end
  path_chain t [] at end p e = subst (λ w. IsAwaited table w end) (sym p) e
  path_chain t (u ∷ us) at end p e = (p.0, path_chain u us at end p.1 e)

  -- whom one on the path waits for is on it, but for the last
  path_next : (t : ℕ) (ts : List ℕ) (at y z : ℕ) → Path table t ts at → Has ts y → IsAwaited table y z → Has ts z ⊎ (y ≡ at)
  path_next t [] at y z p h e = absurd (true≢false (sym h))
  path_next t (u ∷ []) at y z p h e = ⊎_elim (λ (is : y ≡ u). inr (is ∙ p.1)) (λ (on : Has [] y). absurd (true≢false (sym on))) (has_cons y u [] h)
  path_next t (u ∷ v ∷ vs) at y z p h e = ⊎_elim
      (λ (is : y ≡ u). inl (has_tail z u (v ∷ vs) (has_head z v vs (some_once (awaited_by table u) z v (subst (λ w. IsAwaited table w z) is e) p.1.0))))
      (λ (on : Has (v ∷ vs) y). ⊎_elim (λ (k : Has (v ∷ vs) z). inl (has_tail z u (v ∷ vs) k)) (λ (last : y ≡ at). inr last) (path_next u (v ∷ vs) at y z p.1 on e))
      (has_cons y u (v ∷ vs) h)

  -- a path that goes back into itself never leaves
  stays : (t : ℕ) (ts : List ℕ) (at next : ℕ) → Path table t ts at → IsAwaited table at next → Has ts next → (k y z : ℕ) → Has ts y → Leads table k y z → Has ts z
  stays t ts at next p e back zero y z h way = subst (Has ts) way h
  stays t ts at next p e back (suc k) y z h way =
      stays t ts at next p e back k way.0 z
      (⊎_elim
      (λ (on : Has ts way.0). on)
      (λ (last : y ≡ at). subst (Has ts) (some_once (awaited_by table at) next way.0 e (subst (λ w. IsAwaited table w way.0) last way.1)) back)
      (path_next t ts at y way.0 p h way.1))
      way.2

  -- the first steps along a circuit of so many waits, which haven't come back
  pub record OnCycle (t size step at : ℕ) (ts : List ℕ) : Type 0 where
    pub come : Leads table step t at
    path : Path table t ts at
    distinct : IsDistinct nat_eq (t ∷ ts)
    away : 0 < step → at ≢ t

  module _ (t size : ℕ) (circuit : (0 < size) × Leads table size t t) where
    pub cycle_starts : OnCycle t size 0 t []
    unfolding IsDistinct
    cycle_starts = record { come = refl; path = refl; distinct = (tt, tt); away = λ pos. absurd (omega arith) }

    returns : Returns table t
    returns = (size - 1, let pos = circuit.0 in let e : size ≡ suc (size - 1) = omega arith in subst (λ n. Leads table n t t) e circuit.1)

    is_new : (step at next : ℕ) (ts : List ℕ) → OnCycle t size step at ts → IsAwaited table at next → next ≢ t → list_any (nat_eq next) (t ∷ ts) ≡ false
    is_new step at next ts h e ne = let f : nat_eq next t ≡ false = ne_eqb next t ne in rw f (go (list_any (nat_eq next) ts) refl)
      where
        go : (b : Bool) → list_any (nat_eq next) ts ≡ b → list_any (nat_eq next) ts ≡ false
        go false f = f
        go true f =
            let home = comes_back table (suc step) t next returns (leads_more table step t at next h.come e) in
            absurd (lacks t ts (IsDistinct-head nat_eq t ts h.distinct) (stays t ts at next h.path e f home.0 next t f home.1))

    pub cycle_more : (step at next : ℕ) (ts : List ℕ) → OnCycle t size step at ts → IsAwaited table at next → next ≢ t → OnCycle t size (step + 1) next (ts ++ next ∷ [])
    cycle_more step at next ts h e ne = record {
      come = let one : step + 1 ≡ suc step = omega arith in rw one (leads_more table step t at next h.come e);
      path = path_more t ts at next h.path e;
      distinct = IsDistinct-push same_numbers (t ∷ ts) next h.distinct (is_new step at next ts h e ne);
      away = λ pos. ne;
    }

    pub cycle_ends : (step at next : ℕ) (ts : List ℕ) → OnCycle t size step at ts → IsAwaited table at next → next ≡ t → IsCycleFrom table t (t ∷ ts)
    cycle_ends step at next ts h e is = (refl, (h.distinct, path_chain t ts at t h.path (subst (IsAwaited table at) is e)))

    pub cycle_came : {X : Type 0} (step at : ℕ) (ts : List ℕ) → size ≤ step → step ≤ size → OnCycle t size step at ts → X
    cycle_came step at ts ge le h =
        let pos = circuit.0 in
        let e : step ≡ size = omega arith in
        absurd (h.away (omega arith) (leads_once table size t at t (subst (λ n. Leads table n t at) e h.come) circuit.1))

  -- each thread of a cycle leads to itself
  chain_leads : (t : ℕ) (ts : List ℕ) (end : ℕ) → Chain (IsAwaited table) t ts end → (k : ℕ) × Leads table (suc k) t end
  chain_leads t [] end c = (0, (end, c, refl))
  chain_leads t (u ∷ us) end c = let on = chain_leads u us end c.1 in (suc on.0, (u, c.0, on.1))

  all_return : (first : ℕ) (t : ℕ) (ts : List ℕ) (j : ℕ) → Leads table j first t → Chain (IsAwaited table) t ts first → AllByRecursion (Returns table) (t ∷ ts)
  all_return first t [] j way c = (returns_by first t j way [] c, tt)
    where
      returns_by : (first t j : ℕ) → Leads table j first t → (ts : List ℕ) → Chain (IsAwaited table) t ts first → Returns table t
      returns_by first t j way ts c = let on = chain_leads t ts first c in (on.0 + j, let e : suc on.0 + j ≡ suc (on.0 + j) = omega arith in subst (λ n. Leads table n t t) e (leads_add table (suc on.0) j t first t on.1 way))
  all_return first t (u ∷ us) j way c =
      let on = chain_leads t (u ∷ us) first c in
      let e : suc on.0 + j ≡ suc (on.0 + j) = omega arith in (
        (on.0 + j, subst (λ n. Leads table n t t) e (leads_add table (suc on.0) j t first t on.1 way)),
        all_return first u us (suc j) (leads_more table j first t u way c.0) c.1,
      )

  cycle_returns : (us : List ℕ) → IsCycle (IsAwaited table) us → AllByRecursion (Returns table) us
  cycle_returns [] c = absurd c
  cycle_returns (t ∷ ts) c = all_return t t ts 0 refl c.1

  all_from : {P Q : ℕ → Type 0} → ((t : ℕ) → P t → Q t) → (ts : List ℕ) → AllByRecursion P ts → AllByRecursion Q ts
  all_from f [] h = tt
  all_from f (t ∷ ts) h = (f t h.0, all_from f ts h.1)

  pub no_cycle : NoneReturns table → NoCycle table
  no_cycle none [] c = c
  no_cycle none (t ∷ ts) c = none t (cycle_returns (t ∷ ts) c).0

  pub reported : (t : ℕ) (ts : List ℕ) → IsLeastOfAll table t → IsCycleFrom table t ts → IsReported table ts
  reported t [] least c = absurd c
  reported t (u ∷ us) least c = (c.1, λ vs cycle. subst (λ w. All (λ v. w ≤ v) vs) (sym c.0) (All-from_recursion _ vs (all_from least vs (cycle_returns vs cycle))))

pub reported_once : (table : List (Option ℕ)) (one other : List ℕ) → IsReported table one → IsReported table other → one ≡ other
reported_once table = least_of_relation (IsAwaited table) (λ t. some_once (awaited_by table t))
