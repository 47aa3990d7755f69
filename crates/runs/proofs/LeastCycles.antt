-- The least cycle: a state has one at most, and where finitely many threads wait it has one or no cycle at all.
use Rattle.std.proofs.Common.{◌≡◌, ℕ, zero, suc, ◌<◌, ◌≤◌, List, [], ◌∷◌, Bool, true, false, ◌||◌, ◌⊎◌, ⊎_elim, inl, inr, refl, sym, subst, arith, ap, ◌∙◌, length, nat_eq, eqb-true, true≢false, append-nil, All}
use Rattle.std.proofs.lemmas.Bool.{cases_Bool, cases_lt, cases_order, eqb-false}
use Rattle.std.proofs.lemmas.List.Elements.{All-from_recursion, All-head}
use Rattle.std.proofs.lemmas.Map.Steps.{length-le_from_distinct_below}
use Rattle.std.specs.List.{IsDistinct, AllByRecursion, list_any}
use Rattle.runs.specs.System.{Next, Goes, Waits, Ended, Stuck, System}
use Rattle.runs.specs.Waiting.{DoesWait, WaitsFor, Chain, IsCycle, IsLeastCycle, Cycle, LeastCycle}
use Rattle.runs.proofs.Chaining.{leads_on, all_in_circle, chain_once, chain_distinct}
use Rattle.runs.proofs.Cycling.{Lacks}
use Rattle.runs.proofs.Searching.{Decided, Throughout, all_or_first}

-- a thread waits for one thread at most
waits_for_once : {Event Place S : Type 0} (s : System Event Place S) (x : S) (t u v : ℕ) → WaitsFor s x t u → WaitsFor s x t v → u ≡ v
waits_for_once s x t u v a b = ⊎_elim
    (λ same. same)
    (λ other. ⊎_elim
    (λ lt. absurd (true≢false (sym a.1.2 ∙ b.1.3 u lt)))
    (λ gt. absurd (true≢false (sym b.1.2 ∙ a.1.3 v gt)))
    other)
    (cases_order u v)

-- a relation that leads from each number to one at most has one least cycle at most
pub least_of_relation : (R : ℕ → ℕ → Type 0) → ((t u v : ℕ) → R t u → R t v → u ≡ v) → (one other : List ℕ) → IsLeastCycle R one → IsLeastCycle R other → one ≡ other
unfolding IsDistinct
least_of_relation R once [] other h k = absurd h
least_of_relation R once (t ∷ ts) [] h k = absurd k
least_of_relation R once (t ∷ ts) (u ∷ us) h k =
    let le : t ≤ u = All-head (λ v. t ≤ v) u us (h.1 (u ∷ us) k.0) in
    let ge : u ≤ t = All-head (λ v. u ≤ v) t ts (k.1 (t ∷ ts) h.0) in
    let same : u ≡ t = omega arith in
    let chain : Chain R t us t = subst (λ v. Chain R v us v) same k.0.1 in
    let lacks : Lacks us t = subst (λ v. Lacks us v) same k.0.0.0 in
    let rest : ts ≡ us = chain_once R once t t ts us h.0.1 chain h.0.0.0 lacks in
    ap (λ vs. t ∷ vs) rest ∙ ap (λ v. v ∷ us) (sym same)

pub least_once : {Event Place S : Type 0} (s : System Event Place S) (x : S) (one other : List ℕ) → LeastCycle s x one → LeastCycle s x other → one ≡ other
least_once s x = least_of_relation (WaitsFor s x) (waits_for_once s x)

member_below : (n : ℕ) (us : List ℕ) → AllByRecursion (λ u. u ≤ n) us → (q : ℕ) → list_any (nat_eq q) us ≡ true → q < suc n
member_below n [] all q has = absurd (true≢false (sym has))
member_below n (u ∷ us) all q has = go (member_below n us all.1 q) (nat_eq q u) refl has
  where
    go : (list_any (nat_eq q) us ≡ true → q < suc n) → (b : Bool) → nat_eq q u ≡ b → (b || list_any (nat_eq q) us) ≡ true → q < suc n
    go later true e has = let same : q ≡ u = eqb-true q u e in omega (arith, all.0)
    go later false e has = later has

-- a relation that leads from each number to one at most, and only from numbers up to n
module _ (R : ℕ → ℕ → Type 0) (once : (t u v : ℕ) → R t u → R t v → u ≡ v) (n : ℕ) (within : (t u : ℕ) → R t u → t ≤ n) (onward : (t : ℕ) → ((u : ℕ) × R t u) ⊎ ((u v : ℕ) → R t u → R u v → ⊥)) where
  all_within : (t : ℕ) (us : List ℕ) (end : ℕ) → Chain R t us end → AllByRecursion (λ u. u ≤ n) (t ∷ us)
  all_within t [] end c = (within t end c, tt)
  all_within t (u ∷ us) end c = (within t u c.0, all_within u us end c.1)

  -- a cycle has at most the n + 1 numbers up to n
  short : (t : ℕ) (us : List ℕ) → IsDistinct nat_eq (t ∷ us) → Chain R t us t → length us ≤ n
  short t us distinct c =
      let le : length (t ∷ us) ≤ suc n = length-le_from_distinct_below (t ∷ us) (suc n) distinct (member_below n (t ∷ us) (all_within t us t c)) in
      omega arith

  -- a chain from t that comes to `end` there alone, or none that is shorter than the fuel
  Search : ℕ → ℕ → ℕ → Type 0
  Search end fuel t = ((us : List ℕ) × Chain R t us end × Lacks us end) ⊎ ((us : List ℕ) → Chain R t us end → length us < fuel → ⊥)

  no_chain : (t end v : ℕ) → R end v → ((u w : ℕ) → R t u → R u w → ⊥) → (us : List ℕ) → Chain R t us end → ⊥
  no_chain t end v r none [] c = none end v c r
  no_chain t end v r none (u ∷ us) c = let k = leads_on R u us end c.1 in none u k.0 c.0 k.1

  one_on : (t u end fuel : ℕ) → R t u → nat_eq end u ≡ false → Search end fuel u → Search end (suc fuel) t
  unfolding Search
  one_on t u end fuel r ne (inl k) = inl (u ∷ k.0, (r, k.1), (ne, k.2))
  one_on t u end fuel r ne (inr none) = inr no_longer
    where
      no_longer : (us : List ℕ) → Chain R t us end → length us < suc fuel → ⊥
      no_longer [] c lt = eqb-false end u ne (once t end u c r)
      no_longer (v ∷ vs) c lt = none vs (subst (λ w. Chain R w vs end) (once t v u c.0 r) c.1) (omega arith)

  search_chain : (end v : ℕ) → R end v → (fuel t : ℕ) → Search end fuel t
  unfolding Search
  search_chain end v r zero t = inr (λ us c lt. absurd (omega arith))
  search_chain end v r (suc fuel) t = go (λ u. search_chain end v r fuel u) (onward t)
    where
      go : ((u : ℕ) → Search end fuel u) → ((u : ℕ) × R t u) ⊎ ((u w : ℕ) → R t u → R u w → ⊥) → Search end (suc fuel) t
      go further (inr none) = inr (λ us c lt. no_chain t end v r none us c)
      go further (inl k) = ⊎_elim
          (λ e. inl ([], subst (R t) (sym (eqb-true end k.0 e)) k.1, tt))
          (λ ne. one_on t k.0 end fuel k.1 ne (further k.0))
          (cases_Bool (nat_eq end k.0))

  NoCycleFrom : ℕ → Type 0
  NoCycleFrom t = (ts : List ℕ) → Chain R t ts t → length ts ≤ n → ⊥

  CycleFrom : ℕ → Type 0
  CycleFrom t = (ts : List ℕ) × IsDistinct nat_eq (t ∷ ts) × Chain R t ts t

  cycle_from_or_none : (t : ℕ) → CycleFrom t ⊎ NoCycleFrom t
  unfolding Search CycleFrom NoCycleFrom
  cycle_from_or_none t = ⊎_elim
      (λ k. ⊎_elim
      (λ found. inl (found.0, chain_distinct R once t t found.0 found.1 found.2, found.1))
      (λ none. inr (λ ts c le. none ts c (omega arith)))
      (search_chain t k.0 k.1 (suc n) t))
      (λ none. inr (λ ts c le. let k = leads_on R t ts t c in no_chain t t k.0 k.1 none ts c))
      (onward t)

  none_or_not : (t : ℕ) → Decided (NoCycleFrom t)
  unfolding CycleFrom NoCycleFrom
  none_or_not t = ⊎_elim (λ k. inr (λ none. none k.0 k.2 (short t k.0 k.1 k.2))) inl (cycle_from_or_none t)

  -- no cycle has a number below t, if none begins with one
  all_from : (t : ℕ) → Throughout NoCycleFrom 0 t → (us : List ℕ) → IsCycle R us → All (λ u. t ≤ u) us
  unfolding NoCycleFrom
  all_from t before [] c = absurd c
  all_from t before (u ∷ us) c = All-from_recursion (λ v. t ≤ v) (u ∷ us) (all_in_circle R (λ v. t ≤ v) n least u us [] (subst (λ vs. Chain R u vs u) (sym (append-nil us)) c.1) (subst (λ vs. length vs ≤ n) (sym (append-nil us)) (short u us c.0 c.1)))
    where
      least : (v : ℕ) (vs : List ℕ) → Chain R v vs v → length vs ≤ n → t ≤ v
      least v vs d le = ⊎_elim (λ lt. absurd (before v (omega arith) lt vs d le)) (λ ge. ge) (cases_lt v t)

  no_cycle : Throughout NoCycleFrom 0 (suc n) → (us : List ℕ) → IsCycle R us → ⊥
  unfolding NoCycleFrom
  no_cycle none [] c = c
  no_cycle none (u ∷ us) c =
      let k = leads_on R u us u c.1 in
      let le : u ≤ n = within u k.0 k.1 in
      none u (omega arith) (omega arith) us c.1 (short u us c.0 c.1)

  pub least_from_or_none : ((ts : List ℕ) × IsLeastCycle R ts) ⊎ ((us : List ℕ) → IsCycle R us → ⊥)
  unfolding CycleFrom
  least_from_or_none = ⊎_elim
      (λ none. inr (no_cycle none))
      (λ f. ⊎_elim
      (λ k. inl (f.at ∷ k.0, ((k.1, k.2), all_from f.at f.before)))
      (λ none. absurd (f.fails none))
      (cycle_from_or_none f.at))
      (all_or_first NoCycleFrom none_or_not 0 (suc n))

waits_or_not : {S : Type 0} (n : Next S) → Decided (n ≡ Waits)
waits_or_not (Goes x) = inr (λ e. cc)
waits_or_not Waits = inl refl
waits_or_not Ended = inr (λ e. cc)
waits_or_not Stuck = inr (λ e. cc)

false_or_not : (b : Bool) → Decided (b ≡ false)
false_or_not true = inr (λ e. true≢false e)
false_or_not false = inl refl

true_from : (b : Bool) → (b ≡ false → ⊥) → b ≡ true
true_from true h = refl
true_from false h = absurd (h refl)

module _ {Event Place S : Type 0} (s : System Event Place S) (x : S) (n : ℕ) (few : (t : ℕ) → DoesWait s x t → t ≤ n) where
  -- a thread waits for some thread, or for none that waits
  awaits : (t : ℕ) → ((u : ℕ) × WaitsFor s x t u) ⊎ ((u v : ℕ) → WaitsFor s x t u → WaitsFor s x u v → ⊥)
  awaits t = ⊎_elim
      (λ waits. ⊎_elim
      (λ none. inr (λ u v a b. let le : u ≤ n = few u b.1.0 in true≢false (sym a.1.2 ∙ none u (omega arith) (omega arith))))
      (λ f. inl (f.at, (s.place x t, (waits, refl, true_from (s.blocks x t f.at) f.fails, λ v lt. f.before v (omega arith) lt))))
      (all_or_first (λ u. s.blocks x t u ≡ false) (λ u. false_or_not (s.blocks x t u)) 0 (suc n)))
      (λ going. inr (λ u v a b. going a.1.0))
      (waits_or_not (s.next x t))

pub least_or_none : {Event Place S : Type 0} (s : System Event Place S) (x : S) (n : ℕ) → ((t : ℕ) → DoesWait s x t → t ≤ n) → ((ts : List ℕ) × LeastCycle s x ts) ⊎ ((ts : List ℕ) → Cycle s x ts → ⊥)
least_or_none s x n few = least_from_or_none (WaitsFor s x) (waits_for_once s x) n (λ t u w. few t w.1.0) (awaits s x n few)
