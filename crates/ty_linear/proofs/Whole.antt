-- Orders of all classes, and what is left out of others.
use Rattle.std.proofs.Common.{◌≡◌, inl, inr, ℕ, ◌<◌, true, false, List, [], ◌∷◌, reverse, length, subst, arith}
use Rattle.std.specs.List.{Contains}
use Rattle.std.proofs.lemmas.Bool.{cases_Bool, both_ways}
use Rattle.std.proofs.lemmas.List.Elements.{All-contains}
use Rattle.std.proofs.lemmas.Map.Steps.{length-le_from_distinct_below, le-length_from_below}
use Rattle.ty_linear.specs.Linear.{parents_of, is_in, ◌+>◌, IsMerged, none, more, IsAcyclic}
use Rattle.ty_linear.specs.Order.{IsOrder, AreLeft}
use Rattle.ty_linear.proofs.Members.{In, Distinct, Distinct-cons, In-first, In-cases, Contains-from_In}
use Rattle.ty_linear.proofs.Merges.{parent_in}
use Rattle.ty_linear.proofs.Exists.{linear_exists}
use Rattle.ty_linear.proofs.Within.{Within}

order_below : (parents : List (List ℕ)) (order : List ℕ) → IsOrder parents order → (q : ℕ) → In order q → q < length parents
order_below parents order is q h = All-contains (λ class. class < length parents) order q is.within (Contains-from_In order q h)

-- an order as long as the classes has each
pub whole_has : (parents : List (List ℕ)) (order : List ℕ) → IsOrder parents order → Distinct order → length order ≡ length parents
    → (class : ℕ) → class < length parents → In order class
whole_has parents order is distinct long class low = elim (cases_Bool (is_in order class)) [
  | inl e ↦ e
  | inr e ↦ (
      let more = length-le_from_distinct_below (class ∷ order) (length parents) (Distinct-cons class order e distinct)
      (λ q h. elim (In-cases class order q h) [ inl s ↦ rw s low | inr u ↦ order_below parents order is q u ]) in
      absurd (omega (arith, more, long)))
]

-- what has a merge is not left out
not_left : (parents : List (List ℕ)) → Within parents → (order : List ℕ) → AreLeft parents order → (classes list : List ℕ) → IsMerged parents classes list
    → (c : ℕ) → In classes c → c < length parents → In order c
not_left parents within order are classes list none c has low = absurd (let no : false ≡ true = has in cc)
not_left parents within order are classes list (more class rest above merged up later) c has low =
    elim (In-cases class rest c has) [
      | inr h ↦ not_left parents within order are rest merged later c h low
      | inl e ↦ elim (cases_Bool (is_in order c)) [
        | inl there ↦ there
        | inr missing ↦ (
            let left = are c low missing in
            let here : Contains (parents_of parents class) left.0 = subst (λ (y : ℕ). Contains (parents_of parents y) left.0) e left.1 in
            let there = not_left parents within order are (reverse (parents_of parents class)) above up left.0 (parent_in parents class left.0 here) (within c left.0 left.1) in
            absurd (both_ways (is_in order left.0) left.2 there))
      ]
    ]

-- where no class is its own ancestor, none is left out
pub acyclic_whole : (parents : List (List ℕ)) → Within parents → (order : List ℕ) → IsOrder parents order → Distinct order → AreLeft parents order
    → IsAcyclic parents → length order ≡ length parents
acyclic_whole parents within order is distinct are acyclic =
    let all : (q : ℕ) → q < length parents → In order q = λ q low.
    let linear = (linear_exists parents acyclic q).1 in
    not_left parents within order are (q ∷ []) ((q ∷ linear.above) +> []) (more q [] linear.above [] linear.merged none) q (In-first q []) low in
    let least = le-length_from_below order (length parents) all in
    let most = length-le_from_distinct_below order (length parents) distinct (order_below parents order is) in
    omega (arith, least, most)
