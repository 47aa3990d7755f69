-- The least thread that leads to itself.
use Rattle.std.proofs.Common.{◌≡◌, ℕ, zero, suc, ◌+◌, ◌-◌, ◌<◌, ◌≤◌, ◌⊎◌, List, [], Option, None, Some, length, get_or, replicate, MatchOption, refl, sym, subst, arith, ap, ◌∙◌, ⊎_elim, inl, inr}
use Rattle.std.proofs.lemmas.Bool.{cases_lt, cases_eq}
use Rattle.std.proofs.lemmas.List.{length-replicate, get_or_past}
use Rattle.runs.specs.declared.walk.Circuit.{Circuit}
use Rattle.runs.specs.WaitTable.{awaited_by}
use Rattle.runs.specs.Walks.{Leads, Returns, zeros, Marked, IsCircuit, IsCircuitOf, NoneReturns, IsLeastFrom, IsLeastOfAll, IsLesser}
use Rattle.runs.proofs.Walkways.{leads_more, leads_add, leads_rest, leads_once, returns_inside, none_some}

-- so many steps along a circuit of so many waits have come to `at`, and none of the threads passed is less than `least`
pub record Along (table : List (Option ℕ)) (t size step at least : ℕ) : Type 0 where
  pub come : Leads table step t at
  pub passed : (k u : ℕ) → k < step → Leads table k t u → least ≤ u
  pub on : (k : ℕ) × Leads table k t least
  pub low : least ≤ t

module _ (table : List (Option ℕ)) (t size : ℕ) (circuit : (0 < size) × Leads table size t t) where
  pub along_none : Along table t size 0 t t
  along_none = record { come = refl; passed = λ k u lt. absurd (omega arith); on = (0, refl); low = omega arith }

  -- the next step
  pub along_more : (step at least least' next : ℕ) → step < size → Along table t size step at least → awaited_by table at ≡ Some next → least' ≤ least → least' ≤ at → (least' ≡ least) ⊎ (least' ≡ at) → Along table t size (step + 1) next least'
  along_more step at least least' next lt h e low here which = record {
    come = let one : step + 1 ≡ suc step = omega arith in rw one (leads_more table step t at next h.come e);
    passed = λ k u below way. ⊎_elim
        (λ (is : k ≡ step). let same : u ≡ at = leads_once table step t u at (subst (λ n. Leads table n t u) is way) h.come in omega arith)
        (λ (ne : k ≡ step → ⊥). let le : least ≤ u = h.passed k u (omega arith) way in omega arith)
        (cases_eq k step);
    on = ⊎_elim
        (λ (is : least' ≡ least). (h.on.0, subst (Leads table h.on.0 t) (sym is) h.on.1))
        (λ (is : least' ≡ at). (step, subst (Leads table step t) (sym is) h.come))
        which;
    low = let le = h.low in omega arith;
  }

  -- a circuit goes on
  goes_on : (step at : ℕ) → step < size → Leads table step t at → (v : ℕ) × (awaited_by table at ≡ Some v)
  goes_on step at lt come = go (size - step) (omega arith) (leads_rest table step (size - step) t at t (let sum : step + (size - step) ≡ size = omega arith in subst (λ n. Leads table n t t) (sym sum) circuit.1) come)
    where
      go : (k : ℕ) → 0 < k → Leads table k at t → (v : ℕ) × (awaited_by table at ≡ Some v)
      go zero pos way = absurd (omega arith)
      go (suc k) pos way = (way.0, way.1)

  pub never_ends : {X : Type 0} (step at : ℕ) → step < size → Leads table step t at → awaited_by table at ≡ None → X
  never_ends step at lt come e = let next = goes_on step at lt come in absurd (none_some (awaited_by table at) next.0 e next.1)

  -- each thread to which t leads is passed within one round
  within : (fuel k u least at : ℕ) → k ≤ fuel → Along table t size size at least → Leads table k t u → least ≤ u
  within zero k u least at le h way = h.passed k u (let pos = circuit.0 in omega arith) way
  within (suc fuel) k u least at le h way =
      ⊎_elim
      (λ (lt : k < size). h.passed k u lt way)
      (λ (ge : size ≤ k).
      let pos = circuit.0 in
      let sum : size + (k - size) ≡ k = omega arith in
      within fuel (k - size) u least at (omega arith) h (leads_rest table size (k - size) t t u (subst (λ n. Leads table n t u) (sym sum) way) circuit.1))
      (cases_lt k size)

  pub least_from : (step at least : ℕ) → size ≤ step → step ≤ size → Along table t size step at least → IsLeastFrom table t least
  least_from step at least ge le h k u way =
      let e : step ≡ size = omega arith in
      within k k u least at (omega arith) (subst (λ n. Along table t size n at least) e h) way

  pub circuit_from : (step at least : ℕ) → Along table t size step at least → (0 < size) × Leads table size least least
  circuit_from step at least h =
      let k = h.on.0 in
      let sum : size + k ≡ k + size = omega arith in
      (circuit.0, leads_rest table k size t least least (subst (λ n. Leads table n t least) sum (leads_add table size k t t least circuit.1 h.on.1)) h.on.1)

-- the least circuit of the threads that are marked
abbrev LeastMarked : List (Option ℕ) → List ℕ → Option Circuit → Type 0
LeastMarked table marks None = (t : ℕ) → 0 < get_or marks t 0 → Returns table t → ⊥
LeastMarked table marks (Some circuit) = IsCircuit table circuit × ((t : ℕ) → 0 < get_or marks t 0 → Returns table t → circuit.thread ≤ t)

-- a search has met every thread below `start`
pub record Searched (table : List (Option ℕ)) (marks : List ℕ) (met start : ℕ) (least : Option Circuit) : Type 0 where
  pub marked : Marked table marks met
  pub done : (t : ℕ) → t < start → 0 < get_or marks t 0
  least_marked : LeastMarked table marks least

zeros_replicate : (n : ℕ) → zeros (replicate n 0) ≡ n
zeros_replicate zero = refl
zeros_replicate (suc n) = ap suc (zeros_replicate n)

none_marked : (n t : ℕ) → get_or {A = ℕ} (replicate n 0) t 0 ≡ 0
none_marked zero t = get_or_past [] t 0 (omega arith)
none_marked (suc n) zero = refl
none_marked (suc n) (suc t) = none_marked n t

module _ (table : List (Option ℕ)) where
  pub search_starts : (marks : List ℕ) → marks ≡ replicate (length table + 1) 0 → Searched table marks 0 0 None
  search_starts marks is =
      let n = length table + 1 in
      let size : length marks ≡ n = ap length is ∙ length-replicate n 0 in
      let none : (t : ℕ) → get_or marks t 0 ≡ 0 = λ t. ap (λ ms. get_or ms t 0) is ∙ none_marked n t in
      record {
        marked = record {
          size = size;
          unmet = let z : zeros marks ≡ n = ap zeros is ∙ zeros_replicate n in omega arith;
          below = λ t. let e = none t in omega arith;
          closed = λ t u pos. absurd (let e = none t in omega arith);
        };
        done = λ t lt. absurd (omega arith);
        least_marked = λ t pos. absurd (let e = none t in omega arith);
      }

  -- a thread that was met before
  pub search_past : (marks : List ℕ) (met start : ℕ) (least : Option Circuit) → Searched table marks met start least → 0 < get_or marks start 0 → Searched table marks met (start + 1) least
  search_past marks met start least h pos = record {
    marked = h.marked;
    done = λ t lt. ⊎_elim (λ (e : t ≡ start). subst (λ u. 0 < get_or marks u 0) (sym e) pos) (λ (ne : t ≡ start → ⊥). h.done t (omega arith)) (cases_eq t start);
    least_marked = h.least_marked;
  }

  all_done : (old marks : List ℕ) (start : ℕ) → ((t : ℕ) → t < start → 0 < get_or old t 0) → ((t : ℕ) → 0 < get_or old t 0 → 0 < get_or marks t 0) → 0 < get_or marks start 0 → (t : ℕ) → t < start + 1 → 0 < get_or marks t 0
  all_done old marks start done grows begun t lt =
      ⊎_elim (λ (e : t ≡ start). subst (λ u. 0 < get_or marks u 0) (sym e) begun) (λ (ne : t ≡ start → ⊥). grows t (done t (omega arith))) (cases_eq t start)

  -- a thread that is marked was so before, or is now
  before_or_now : (old : List ℕ) (t : ℕ) → (0 < get_or old t 0) ⊎ (get_or old t 0 ≡ 0)
  before_or_now old t = ⊎_elim (λ (lt : 0 < get_or old t 0). inl lt) (λ (ge : get_or old t 0 ≤ 0). inr (omega arith)) (cases_lt 0 (get_or old t 0))

  least_same : (old marks : List ℕ) (least : Option Circuit) → IsCircuitOf table old marks None → LeastMarked table old least → LeastMarked table marks least
  least_same old marks None new h =
      λ t pos returns. ⊎_elim (λ (was : 0 < get_or old t 0). h t was returns) (λ (now : get_or old t 0 ≡ 0). new t now pos returns) (before_or_now old t)
  least_same old marks (Some circuit) new h =
      (h.0, λ t pos returns. ⊎_elim (λ (was : 0 < get_or old t 0). h.1 t was returns) (λ (now : get_or old t 0 ≡ 0). absurd (new t now pos returns)) (before_or_now old t))

  least_more : (old marks : List ℕ) (least : Option Circuit) (found turned best : Circuit) → IsCircuitOf table old marks (Some found) → IsCircuit table turned → IsLeastFrom table found.thread turned.thread → IsLesser least turned best → LeastMarked table old least → LeastMarked table marks (Some best)
  least_more old marks None found turned best new circuit low is h = (
    subst (IsCircuit table) (sym is) circuit,
    λ t pos returns. ⊎_elim
        (λ (was : 0 < get_or old t 0). absurd (h t was returns))
        (λ (now : get_or old t 0 ≡ 0).
        let way = new.1 t now pos returns in
        let le : turned.thread ≤ t = low way.0 t way.1 in
        subst (λ (c : Circuit). c.thread ≤ t) (sym is) le)
        (before_or_now old t),
  )
  least_more old marks (Some one) found turned best new circuit low is h = (
    ⊎_elim (λ (e : best ≡ one). subst (IsCircuit table) (sym e) h.0) (λ (e : best ≡ turned). subst (IsCircuit table) (sym e) circuit) is.0,
    λ t pos returns. ⊎_elim
        (λ (was : 0 < get_or old t 0). let le : one.thread ≤ t = h.1 t was returns in let lower = is.1 in omega arith)
        (λ (now : get_or old t 0 ≡ 0).
        let way = new.1 t now pos returns in
        let le : turned.thread ≤ t = low way.0 t way.1 in
        let lower = is.2 in omega arith)
        (before_or_now old t),
  )

  pub search_none : (old marks : List ℕ) (met met' start : ℕ) (least : Option Circuit) → Searched table old met start least → Marked table marks met' → 0 < get_or marks start 0 → ((t : ℕ) → 0 < get_or old t 0 → 0 < get_or marks t 0) → IsCircuitOf table old marks None → Searched table marks met' (start + 1) least
  search_none old marks met met' start least h marked begun grows new = record {
    marked = marked;
    done = all_done old marks start h.done grows begun;
    least_marked = least_same old marks least new h.least_marked;
  }

  pub search_found : (old marks : List ℕ) (met met' start : ℕ) (least : Option Circuit) (found turned best : Circuit) → Searched table old met start least → Marked table marks met' → 0 < get_or marks start 0 → ((t : ℕ) → 0 < get_or old t 0 → 0 < get_or marks t 0) → IsCircuitOf table old marks (Some found) → IsCircuit table turned → IsLeastFrom table found.thread turned.thread → IsLesser least turned best → Searched table marks met' (start + 1) (Some best)
  search_found old marks met met' start least found turned best h marked begun grows new circuit low is = record {
    marked = marked;
    done = all_done old marks start h.done grows begun;
    least_marked = least_more old marks least found turned best new circuit low is h.least_marked;
  }

  module _ (marks : List ℕ) (met start : ℕ) (all : length marks ≤ start) where
    every : {least : Option Circuit} → Searched table marks met start least → (t : ℕ) → Returns table t → 0 < get_or marks t 0
    every h t returns = h.done t (let size = h.marked.size in let inside = returns_inside table t returns in omega arith)

    none_returns : Searched table marks met start None → NoneReturns table
    none_returns h t returns = h.least_marked t (every h t returns) returns

    least_of_all : (circuit : Circuit) → Searched table marks met start (Some circuit) → IsCircuit table circuit × IsLeastOfAll table circuit.thread
    least_of_all circuit h = (h.least_marked.0, λ t returns. h.least_marked.1 t (every h t returns) returns)

    pub search_ends : (least : Option Circuit) → Searched table marks met start least → MatchOption least (NoneReturns table) (λ circuit. IsCircuit table circuit × IsLeastOfAll table circuit.thread)
    search_ends None h = none_returns h
    search_ends (Some circuit) h = least_of_all circuit h
