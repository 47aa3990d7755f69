-- Chains of a relation that leads from each number to one at most.
use Rattle.std.proofs.Common.{◌≡◌, ℕ, suc, ◌≤◌, List, [], ◌∷◌, ◌++◌, Bool, true, false, ◌||◌, ⊎_elim, refl, sym, subst, arith, ap, ◌∙◌, length, nat_eq, eqb-true, eq-eqb, true≢false, append_assoc, length-append}
use Rattle.std.proofs.lemmas.Bool.{cases_Bool}
use Rattle.std.specs.List.{IsDistinct, AllByRecursion, list_any}
use Rattle.runs.specs.Waiting.{Chain}
use Rattle.runs.proofs.Cycling.{Lacks, lacks_from_test}

-- the first number of a chain leads on
pub leads_on : (R : ℕ → ℕ → Type 0) (t : ℕ) (ts : List ℕ) (end : ℕ) → Chain R t ts end → (u : ℕ) × R t u
leads_on R t [] end c = (end, c)
leads_on R t (u ∷ us) end c = (u, c.0)

pub joined : (R : ℕ → ℕ → Type 0) (t : ℕ) (ts : List ℕ) (u : ℕ) (us : List ℕ) (end : ℕ) → Chain R t ts u → Chain R u us end → Chain R t (ts ++ u ∷ us) end
joined R t [] u us end c d = (c, d)
joined R t (v ∷ vs) u us end c d = (c.0, joined R v vs u us end c.1 d)

-- what holds of each number that comes back to itself in so many steps holds of all numbers of such a circle
pub all_in_circle : (R : ℕ → ℕ → Type 0) (P : ℕ → Type 0) (n : ℕ) → ((t : ℕ) (ts : List ℕ) → Chain R t ts t → length ts ≤ n → P t) → (t : ℕ) (us vs : List ℕ) → Chain R t (us ++ vs) t → length (us ++ vs) ≤ n → AllByRecursion P (t ∷ us)
all_in_circle R P n holds t [] vs c le = (holds t vs c le, tt)
all_in_circle R P n holds t (u ∷ us) vs c le =
    let same : (us ++ vs) ++ t ∷ [] ≡ us ++ (vs ++ t ∷ []) = append_assoc us vs (t ∷ []) in
    let around : Chain R u (us ++ (vs ++ t ∷ [])) u = subst (λ xs. Chain R u xs u) same (joined R u (us ++ vs) t [] u c.1 c.0) in
    let long : length (us ++ (vs ++ t ∷ [])) ≡ suc (length (us ++ vs)) = ap length (sym same) ∙ grind (arith, length-append (us ++ vs) (t ∷ [])) in
    (holds t (u ∷ us ++ vs) c le, all_in_circle R P n holds u us (vs ++ t ∷ []) around (omega arith))

module _ (R : ℕ → ℕ → Type 0) (once : (t u v : ℕ) → R t u → R t v → u ≡ v) where
  not_first : (end u : ℕ) (us : List ℕ) → Lacks (u ∷ us) end → end ≡ u → ⊥
  not_first end u us lacks e = true≢false (sym (eq-eqb end u e) ∙ lacks.0)

  -- two chains to the same end that come to it there alone are the same
  pub chain_once : (t end : ℕ) (us vs : List ℕ) → Chain R t us end → Chain R t vs end → Lacks us end → Lacks vs end → us ≡ vs
  chain_once t end [] [] c d lacks_u lacks_v = refl
  chain_once t end [] (v ∷ vs) c d lacks_u lacks_v = absurd (not_first end v vs lacks_v (once t end v c d.0))
  chain_once t end (u ∷ us) [] c d lacks_u lacks_v = absurd (not_first end u us lacks_u (once t end u d c.0))
  chain_once t end (u ∷ us) (v ∷ vs) c d lacks_u lacks_v =
      let same : u ≡ v = once t u v c.0 d.0 in
      let rest : us ≡ vs = chain_once u end us vs c.1 (subst (λ w. Chain R w vs end) (sym same) d.1) lacks_u.1 lacks_v.1 in
      ap (λ xs. u ∷ xs) rest ∙ ap (λ w. w ∷ vs) same

  -- a chain to the end that is no longer than us
  From : ℕ → ℕ → List ℕ → Type 0
  From t end us = (vs : List ℕ) × Chain R t vs end × Lacks vs end × (length vs ≤ length us)

  here : (t u end : ℕ) (us : List ℕ) → Chain R u us end → Lacks us end → (b : Bool) → nat_eq t u ≡ b → (b || list_any (nat_eq t) us) ≡ true → (list_any (nat_eq t) us ≡ true → From t end us) → From t end us
  unfolding From
  here t u end us c lacks true e has later = (us, subst (λ w. Chain R w us end) (sym (eqb-true t u e)) c, lacks, omega arith)
  here t u end us c lacks false e has later = later has

  -- the chain from one of its numbers on
  from_member : (t u end : ℕ) (us : List ℕ) → Chain R u us end → Lacks us end → list_any (nat_eq t) (u ∷ us) ≡ true → From t end us
  unfolding From
  from_member t u end [] c lacks has = here t u end [] c lacks (nat_eq t u) refl has (λ more. absurd (true≢false (sym more)))
  from_member t u end (w ∷ ws) c lacks has = here t u end (w ∷ ws) c lacks (nat_eq t u) refl has (λ more. let k = from_member t w end ws c.1 lacks.1 more in (k.0, k.1, k.2, omega (arith, k.3)))

  -- a chain that comes to its end there alone comes to no number twice
  pub chain_distinct : (t end : ℕ) (us : List ℕ) → Chain R t us end → Lacks us end → IsDistinct nat_eq (t ∷ us)
  unfolding IsDistinct From
  chain_distinct t end [] c lacks = (tt, tt)
  chain_distinct t end (u ∷ us) c lacks = (
    ⊎_elim
        (λ has. let k = from_member t u end us c.1 lacks.1 has in
        let same : u ∷ us ≡ k.0 = chain_once t end (u ∷ us) k.0 c k.1 lacks k.2 in
        let long : length (u ∷ us) ≡ length k.0 = ap length same in
        absurd (omega (arith, k.3)))
        (λ lacks_t. lacks_from_test t (u ∷ us) lacks_t)
        (cases_Bool (list_any (nat_eq t) (u ∷ us))),
    chain_distinct u end us c.1 lacks.1,
  )
