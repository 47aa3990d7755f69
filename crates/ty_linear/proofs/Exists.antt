-- Where no class is its own ancestor, each class has a linearisation.
use Rattle.std.proofs.Common.{◌≡◌, inl, inr, ℕ, zero, suc, ◌+◌, ◌<◌, ◌≤◌, true, false, List, [], ◌∷◌, reverse, length, refl, arith}
use Rattle.std.proofs.lemmas.Bool.{cases_lt}
use Rattle.std.proofs.lemmas.List.{get_or_past}
use Rattle.std.proofs.lemmas.Map.Steps.{length-le_from_distinct_below}
use Rattle.ty_linear.specs.Linear.{parents_of, ◌+>◌, IsMerged, none, more, IsLinearisation, IsAncestor, parent, IsAcyclic}
use Rattle.ty_linear.proofs.Members.{In, Distinct, Distinct-nil, Distinct-cons, In-first, In-later, In-cases, is_in-missing}
use Rattle.ty_linear.proofs.Ancestors.{ancestor_chain}
use Rattle.ty_linear.proofs.Merges.{in_parent}

-- what a class's parents merge to
Above : List (List ℕ) → ℕ → Type 0
Above parents class = (above : List ℕ) × IsMerged parents (reverse (parents_of parents class)) above

-- classes merge where what is above each does
merge_all : (parents : List (List ℕ)) (classes : List ℕ) → ((p : ℕ) → In classes p → Above parents p) → (list : List ℕ) × IsMerged parents classes list
unfolding Above
merge_all parents [] f = ([], none)
merge_all parents (c ∷ classes) f =
    let up = f c (In-first c classes) in
    let later = merge_all parents classes (λ p h. f p (In-later c classes p h)) in
    ((c ∷ up.0) +> later.0, more c classes up.0 later.0 up.1 later.1)

-- a path down from a class has no class twice, so it ends
descend : (parents : List (List ℕ)) → IsAcyclic parents → (fuel : ℕ) (path : List ℕ) (class : ℕ)
    → Distinct path → ((x : ℕ) → In path x → x < length parents) → ((x : ℕ) → In path x → IsAncestor parents class x)
    → length parents ≤ length path + fuel → Above parents class
unfolding Above
descend parents acyclic zero path class distinct within below enough =
    elim (cases_lt class (length parents)) [
      | inr out ↦ (let e : parents_of parents class ≡ [] = get_or_past parents class [] out in rw e ([], none))
      | inl here ↦ absurd (
          let longer = length-le_from_distinct_below (class ∷ path) (length parents)
          (Distinct-cons class path (is_in-missing path class (λ h. acyclic class (below class h))) distinct)
          (λ x h. elim (In-cases class path x h) [ inl e ↦ rw e here | inr u ↦ within x u ]) in
          omega (arith, longer))
    ]
descend parents acyclic (suc fuel) path class distinct within below enough =
    elim (cases_lt class (length parents)) [
      | inr out ↦ (let e : parents_of parents class ≡ [] = get_or_past parents class [] out in rw e ([], none))
      | inl here ↦ merge_all parents (reverse (parents_of parents class)) (λ p has.
          let over = parent p class (in_parent parents class p has) in
          descend parents acyclic fuel (class ∷ path) p
          (Distinct-cons class path (is_in-missing path class (λ h. acyclic class (below class h))) distinct)
          (λ x h. elim (In-cases class path x h) [ inl e ↦ rw e here | inr u ↦ within x u ])
          (λ x h. elim (In-cases class path x h) [
            | inl e ↦ rw e over
            | inr u ↦ ancestor_chain parents p class x over (below x u)
          ])
          (omega (arith, enough)))
    ]

pub linear_exists : (parents : List (List ℕ)) → IsAcyclic parents → (class : ℕ) → (list : List ℕ) × IsLinearisation parents class list
unfolding Above
linear_exists parents acyclic class =
    let up = descend parents acyclic (length parents) [] class Distinct-nil
    (λ x h. let no : false ≡ true = h in cc) (λ x h. let no : false ≡ true = h in cc) (omega arith) in
    (class ∷ up.0, record { above = up.0; merged = up.1; is = refl })
