-- The search through the ancestors of a class.
use Rattle.std.proofs.Common.{◌≡◌, ◌⊎◌, inl, inr, true, false, ℕ, ◌+◌, ◌<◌, ◌≤◌, List, [], reverse, length, get_or, sym, ap, ◌∙◌, subst, arith}
use Rattle.std.specs.List.{Contains}
use Rattle.std.proofs.lemmas.Bool.{or_cases, or_left, or_right, cases_lt}
use Rattle.std.proofs.lemmas.List.{get_or_append_left, get_or_default}
use Rattle.std.proofs.lemmas.List.Elements.{Contains-get_or}
use Rattle.std.proofs.lemmas.Map.Steps.{length-le_from_distinct_below}
use Rattle.ty_linear.specs.Linear.{parents_of, is_in, IsAncestor, parent, beyond}
use Rattle.ty_linear.specs.Gather.{gathered}
use Rattle.ty_linear.proofs.Members.{In, Distinct, Distinct-nil, In-from_Contains, Contains-from_In, is_in-reverse}
use Rattle.ty_linear.proofs.Ancestors.{ancestor_chain}
use Rattle.ty_linear.proofs.Gathered.{is_in-gathered, gathered_behind, Distinct-gathered}
use Rattle.ty_linear.proofs.Within.{Within, ancestor_within}

-- the found classes are ancestors; the parents of the class and of those before this number are there
pub record IsSearched (parents : List (List ℕ)) (class : ℕ) (found : List ℕ) (number : ℕ) : Type 0 where
  pub above : (x : ℕ) → In found x → IsAncestor parents x class
  pub distinct : Distinct found
  pub start : (p : ℕ) → Contains (parents_of parents class) p → In found p
  pub closed : (k p : ℕ) → k < number → Contains (parents_of parents (get_or found k 0)) p → In found p

-- what was there stays, and the new parents come
stays : (found ys : List ℕ) (x : ℕ) → In found x → In (gathered found ys) x
stays found ys x h = is_in-gathered found ys x ∙ or_left (is_in found x) (is_in ys x) h

comes : (found ps : List ℕ) (x : ℕ) → Contains ps x → In (gathered found (reverse ps)) x
comes found ps x h =
    is_in-gathered found (reverse ps) x
    ∙ or_right (is_in found x) (is_in (reverse ps) x) (is_in-reverse ps x ∙ In-from_Contains ps x h)

there : (found ps : List ℕ) (x : ℕ) → In (gathered found (reverse ps)) x → In found x ⊎ Contains ps x
there found ps x h =
    elim (or_cases (is_in found x) (is_in (reverse ps) x) (sym (is_in-gathered found (reverse ps) x) ∙ h)) [
      | inl e ↦ inl e
      | inr e ↦ inr (Contains-from_In ps x (sym (is_in-reverse ps x) ∙ e))
    ]

pub search_start : (parents : List (List ℕ)) (class : ℕ) (found : List ℕ) → found ≡ gathered [] (reverse (parents_of parents class))
    → IsSearched parents class found 0
search_start parents class found is =
    let ps = parents_of parents class in
    let made : IsSearched parents class (gathered [] (reverse ps)) 0 = record {
      above = λ x h. elim (there [] ps x h) [ inl e ↦ absurd (let no : false ≡ true = e in cc) | inr has ↦ parent x class has ];
      distinct = Distinct-gathered [] (reverse ps) Distinct-nil;
      start = λ p has. comes [] ps p has;
      closed = λ k p h has. absurd (omega (arith, h));
    } in
    rw is made

pub search_more : (parents : List (List ℕ)) (class : ℕ) (found next : List ℕ) (number : ℕ) → IsSearched parents class found number → number < length found
    → next ≡ gathered found (reverse (parents_of parents (get_or found number 0))) → IsSearched parents class next (number + 1)
search_more parents class found next number so_far here is =
    let at = get_or found number 0 in
    let ps = parents_of parents at in
    let behind = gathered_behind found (reverse ps) in
    let up : IsAncestor parents at class = so_far.above at (In-from_Contains found at (Contains-get_or found number 0 here)) in
    let same : (k : ℕ) → k < length found → get_or (gathered found (reverse ps)) k 0 ≡ get_or found k 0 =
    λ k h. ap (λ (l : List ℕ). get_or l k 0) behind.1 ∙ get_or_append_left found behind.0 0 k h in
    let made : IsSearched parents class (gathered found (reverse ps)) (number + 1) = record {
      above = λ x h. elim (there found ps x h) [ inl e ↦ so_far.above x e | inr has ↦ ancestor_chain parents x at class (parent x at has) up ];
      distinct = Distinct-gathered found (reverse ps) so_far.distinct;
      start = λ p has. stays found (reverse ps) p (so_far.start p has);
      closed = λ k p h has.
          let old : k < length found = omega (arith, h, here) in
          let has' : Contains (parents_of parents (get_or found k 0)) p = subst (λ (y : ℕ). Contains (parents_of parents y) p) (same k old) has in
          elim (cases_lt k number) [
            | inl lower ↦ stays found (reverse ps) p (so_far.closed k p lower has')
            | inr above ↦ (let e : k ≡ number = omega (arith, h, above) in
                comes found ps p (subst (λ (y : ℕ). Contains (parents_of parents (get_or found y 0)) p) e has'))
          ];
    } in
    rw is made

found_parent : (parents : List (List ℕ)) (class : ℕ) (found : List ℕ) (number : ℕ) → IsSearched parents class found number → length found ≤ number
    → (p c : ℕ) → (c ≡ class) ⊎ In found c → Contains (parents_of parents c) p → In found p
found_parent parents class found number all out p c (inl e) has =
    all.start p (subst (λ (y : ℕ). Contains (parents_of parents y) p) e has)
found_parent parents class found number all out p c (inr h) has =
    let at = Contains-from_In found c h in
    let e : get_or found at.0 0 ≡ c = get_or_default found at.0 0 c at.1 ∙ at.2 in
    all.closed at.0 p (omega (arith, at.1, out)) (subst (λ (y : ℕ). Contains (parents_of parents y) p) (sym e) has)

-- nothing is left: each ancestor is there
pub search_all : (parents : List (List ℕ)) (class : ℕ) (found : List ℕ) (number : ℕ) → IsSearched parents class found number → length found ≤ number
    → (x c : ℕ) → (c ≡ class) ⊎ In found c → IsAncestor parents x c → In found x
search_all parents class found number all out x c from (parent _ _ has) = found_parent parents class found number all out x c from has
search_all parents class found number all out x c from (beyond _ middle _ has rest) =
    search_all parents class found number all out x middle (inr (found_parent parents class found number all out middle c from has)) rest

-- no more are found than there are classes
pub search_short : (parents : List (List ℕ)) → Within parents → (class : ℕ) (found : List ℕ) (number : ℕ) → IsSearched parents class found number
    → length found ≤ length parents
search_short parents within class found number so_far =
    length-le_from_distinct_below found (length parents) so_far.distinct (λ q h. ancestor_within parents within q class (so_far.above q h))

pub search_within : (parents : List (List ℕ)) → Within parents → (class : ℕ) (found : List ℕ) (number : ℕ) → IsSearched parents class found number
    → number < length found → get_or found number 0 < length parents
search_within parents within class found number so_far here =
    let at = get_or found number 0 in
    ancestor_within parents within at class (so_far.above at (In-from_Contains found at (Contains-get_or found number 0 here)))
