-- What the definition of a merge entails.
use Rattle.std.proofs.Common.{◌≡◌, inl, inr, ℕ, ◌↔◌, true, false, List, [], ◌∷◌, reverse, refl, sym, ap, ◌∙◌, subst}
use Rattle.std.specs.List.{Contains}
use Rattle.std.proofs.lemmas.Bool.{or_cases, or_left, or_right}
use Rattle.ty_linear.specs.Linear.{parents_of, is_in, ◌+>◌, IsMerged, none, more, IsLinearisation, IsAncestor, parent}
use Rattle.ty_linear.proofs.Members.{In, Distinct, Contains-from_In, In-from_Contains, In-first, In-equal, In-later, In-cases, is_in-reverse, is_in-joined, is_in-missing, Distinct-nil, Distinct-cons, Distinct-joined}
use Rattle.ty_linear.proofs.Ancestors.{IsAtOrAbove, ancestor_chain, above_parent, by_parent}

-- a parent stands among the parents, from either end
pub parent_in : (parents : List (List ℕ)) (class p : ℕ) → Contains (parents_of parents class) p → In (reverse (parents_of parents class)) p
parent_in parents class p has = is_in-reverse (parents_of parents class) p ∙ In-from_Contains (parents_of parents class) p has

pub in_parent : (parents : List (List ℕ)) (class p : ℕ) → In (reverse (parents_of parents class)) p → Contains (parents_of parents class) p
in_parent parents class p has = Contains-from_In (parents_of parents class) p (sym (is_in-reverse (parents_of parents class) p) ∙ has)

-- no merged class is its own ancestor
pub merged_acyclic : (parents : List (List ℕ)) (classes list : List ℕ) → IsMerged parents classes list
    → (x : ℕ) → In classes x → ¬ (IsAncestor parents x x)
merged_acyclic parents classes list none x has = λ a. cc
merged_acyclic parents classes list (more class rest above merged up later) x has = λ a.
    elim (In-cases class rest x has) [
      | inl e ↦ (let q = by_parent parents x x a in
          let here : Contains (parents_of parents class) q.0 = subst (λ (y : ℕ). Contains (parents_of parents y) q.0) e q.1 in
          let loop : IsAncestor parents q.0 q.0 = elim q.2 [
            | inl s ↦ subst (λ (y : ℕ). IsAncestor parents y y) s a
            | inr s ↦ ancestor_chain parents q.0 x q.0 (parent q.0 x q.1) s
          ] in
          merged_acyclic parents (reverse (parents_of parents class)) above up q.0 (parent_in parents class q.0 here) loop)
      | inr h ↦ merged_acyclic parents rest merged later x h a
    ]

-- a merge has exactly what is at or above its classes
pub merged_below : (parents : List (List ℕ)) (classes list : List ℕ) → IsMerged parents classes list
    → (x : ℕ) → In list x → (c : ℕ) × In classes c × IsAtOrAbove parents x c
merged_below parents classes list none x has = absurd (let h : false ≡ true = has in cc)
merged_below parents classes list (more class rest above merged up later) x has =
    elim (or_cases (is_in (class ∷ above) x) (is_in merged x) (sym (is_in-joined (class ∷ above) merged x) ∙ has)) [
      | inl h ↦ elim (In-cases class above x h) [
        | inl e ↦ (class, In-first class rest, inl e)
        | inr u ↦ (let q = merged_below parents (reverse (parents_of parents class)) above up x u in
            (class, In-first class rest, inr (above_parent parents x q.0 class (in_parent parents class q.0 q.1) q.2)))
      ]
      | inr h ↦ (let q = merged_below parents rest merged later x h in (q.0, In-later class rest q.0 q.1, q.2))
    ]

pub merged_above : (parents : List (List ℕ)) (classes list : List ℕ) → IsMerged parents classes list
    → (x c : ℕ) → In classes c → IsAtOrAbove parents x c → In list x
merged_above parents classes list none x c has a = absurd (let h : false ≡ true = has in cc)
merged_above parents classes list (more class rest above merged up later) x c has a =
    is_in-joined (class ∷ above) merged x ∙ elim (In-cases class rest c has) [
      | inr h ↦ or_right (is_in (class ∷ above) x) (is_in merged x) (merged_above parents rest merged later x c h a)
      | inl e ↦ or_left (is_in (class ∷ above) x) (is_in merged x) (elim a [
        | inl s ↦ In-equal x class above (s ∙ e)
        | inr s ↦ (let q = by_parent parents x c s in
            let here : Contains (parents_of parents class) q.0 = subst (λ (y : ℕ). Contains (parents_of parents y) q.0) e q.1 in
            In-later class above x (merged_above parents (reverse (parents_of parents class)) above up x q.0 (parent_in parents class q.0 here) q.2))
      ])
    ]

-- what is above a merged class lacks it
pub own_missing : (parents : List (List ℕ)) (class : ℕ) (above : List ℕ) → IsMerged parents (reverse (parents_of parents class)) above
    → is_in above class ≡ false
own_missing parents class above up = is_in-missing above class (λ h.
    let q = merged_below parents (reverse (parents_of parents class)) above up class h in
    let here = parent q.0 class (in_parent parents class q.0 q.1) in
    let loop : IsAncestor parents q.0 q.0 = elim q.2 [
      | inl s ↦ subst (λ (y : ℕ). IsAncestor parents q.0 y) s here
      | inr s ↦ ancestor_chain parents q.0 class q.0 here s
    ] in
    merged_acyclic parents (reverse (parents_of parents class)) above up q.0 q.1 loop)

-- a merge has no class twice
pub merged_distinct : (parents : List (List ℕ)) (classes list : List ℕ) → IsMerged parents classes list → Distinct list
merged_distinct parents classes list none = Distinct-nil
merged_distinct parents classes list (more class rest above merged up later) =
    Distinct-joined (class ∷ above) merged
    (Distinct-cons class above (own_missing parents class above up) (merged_distinct parents (reverse (parents_of parents class)) above up))
    (merged_distinct parents rest merged later)

-- classes have one merge
pub merged_only : (parents : List (List ℕ)) (classes list other : List ℕ) → IsMerged parents classes list → IsMerged parents classes other → list ≡ other
merged_only parents classes list other none none = refl
merged_only parents classes list other (more class rest above merged up later) (more _ _ above' merged' up' later') =
    let e = merged_only parents (reverse (parents_of parents class)) above above' up up' in
    let f = merged_only parents rest merged merged' later later' in
    ap (λ a. (class ∷ a) +> merged) e ∙ ap (λ m. (class ∷ above') +> m) f

-- the laws of linearisations
pub linear_first : (parents : List (List ℕ)) (class : ℕ) (list : List ℕ) → IsLinearisation parents class list → (above : List ℕ) × (list ≡ class ∷ above)
linear_first parents class list h = (h.above, h.is)

pub linear_distinct : (parents : List (List ℕ)) (class : ℕ) (list : List ℕ) → IsLinearisation parents class list → Distinct list
linear_distinct parents class list h =
    rw h.is (Distinct-cons class h.above (own_missing parents class h.above h.merged) (merged_distinct parents (reverse (parents_of parents class)) h.above h.merged))

-- a linearisation is the merge of its class alone, but for an empty list behind it
linear_above : (parents : List (List ℕ)) (class : ℕ) (list : List ℕ) → IsLinearisation parents class list → (x : ℕ) → In list x → IsAtOrAbove parents x class
linear_above parents class list h x has =
    let has' : In (class ∷ h.above) x = rw h.is at has in
    elim (In-cases class h.above x has') [
      | inl e ↦ inl e
      | inr u ↦ (let q = merged_below parents (reverse (parents_of parents class)) h.above h.merged x u in
          inr (above_parent parents x q.0 class (in_parent parents class q.0 q.1) q.2))
    ]

linear_has : (parents : List (List ℕ)) (class : ℕ) (list : List ℕ) → IsLinearisation parents class list → (x : ℕ) → IsAtOrAbove parents x class → In list x
linear_has parents class list h x a = rw h.is (elim a [
  | inl e ↦ In-equal x class h.above e
  | inr s ↦ (let q = by_parent parents x class s in
      In-later class h.above x (merged_above parents (reverse (parents_of parents class)) h.above h.merged x q.0 (parent_in parents class q.0 q.1) q.2))
])

pub linear_members : (parents : List (List ℕ)) (class : ℕ) (list : List ℕ) → IsLinearisation parents class list
    → (x : ℕ) → Contains list x ↔ IsAtOrAbove parents x class
linear_members parents class list h x = (
  λ has. linear_above parents class list h x (In-from_Contains list x has),
  λ a. Contains-from_In list x (linear_has parents class list h x a),
)

pub linear_only : (parents : List (List ℕ)) (class : ℕ) (list other : List ℕ) → IsLinearisation parents class list → IsLinearisation parents class other → list ≡ other
linear_only parents class list other h g =
    h.is ∙ ap (λ a. class ∷ a) (merged_only parents (reverse (parents_of parents class)) h.above g.above h.merged g.merged) ∙ sym g.is

pub linear_acyclic : (parents : List (List ℕ)) (class : ℕ) (list : List ℕ) → IsLinearisation parents class list → ¬ (IsAncestor parents class class)
linear_acyclic parents class list h = merged_acyclic parents (class ∷ []) ((class ∷ h.above) +> []) (more class [] h.above [] h.merged none) class (In-first class [])
