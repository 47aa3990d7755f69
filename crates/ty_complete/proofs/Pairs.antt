-- Pairs of a list, and a list beside another.
use Rattle.std.proofs.Common.{◌≡◌, ℕ, ◌+◌, ◌-◌, ◌<◌, List, length, take, drop, map, get_or, sym, ap, ◌∙◌, subst, inl, inr, arith}
use Rattle.std.specs.List.{All, AllPairs}
use Rattle.std.proofs.lemmas.Bool.{cases_lt}
use Rattle.std.proofs.lemmas.List.{drop-map, length-map, length-drop, get_or-drop, get_or-map, get_or_default}
use Rattle.std.proofs.lemmas.Slice.{between_to_end}

rest_is : {X : Type 0} (xs : List X) (n : ℕ) → take (length xs - n) (drop n xs) ≡ drop n xs
rest_is xs n = between_to_end xs n (length xs) (omega arith)

-- what stands beside the rest of a list
pub rest_beside : {X Y : Type 0} (f : X → Y) (xs : List X) (ys : List Y) (n : ℕ) → ys ≡ map f xs
    → take (length ys - n) (drop n ys) ≡ map f (take (length xs - n) (drop n xs))
rest_beside f xs ys n beside =
    rest_is ys n ∙ ap (drop n) beside ∙ drop-map f n xs ∙ ap (map f) (sym (rest_is xs n))

-- the pairs of an item and those behind it
pub pairs_at : {X : Type 0} (R : X → X → Type 0) (xs : List X) (i : ℕ) (x : X) → i < length xs → x ≡ get_or xs i x → AllPairs R xs
    → All (R x) (take (length xs - (i + 1)) (drop (i + 1) xs))
pairs_at R xs i x here is all =
    subst (All (R x)) (sym (rest_is xs (i + 1)))
    (λ k d within.
    let far : i + 1 + k < length xs = omega (arith, within, length-drop (i + 1) xs) in
    let pair : R (get_or xs i d) (get_or xs (i + 1 + k) d) = all i (i + 1 + k) d (omega arith) far in
    let same : get_or xs i d ≡ x = get_or_default xs i d x here ∙ sym is in
    subst (R x) (sym (get_or-drop (i + 1) xs k d)) (subst (λ y. R y (get_or xs (i + 1 + k) d)) same pair))

-- the pairs of one more item
pub pairs_more : {X : Type 0} (R : X → X → Type 0) (xs : List X) (i : ℕ) (x : X) → i < length xs → x ≡ get_or xs i x
    → ((k j : ℕ) (d : X) → k < i → k < j → j < length xs → R (get_or xs k d) (get_or xs j d))
    → All (R x) (take (length xs - (i + 1)) (drop (i + 1) xs))
    → (k j : ℕ) (d : X) → k < i + 1 → k < j → j < length xs → R (get_or xs k d) (get_or xs j d)
pairs_more R xs i x here is before at k j d first second within =
    elim (cases_lt k i) [
      | inl less ↦ before k j d less second within
      | inr least ↦
          let same_place : k ≡ i = omega arith in
          let rest : All (R x) (drop (i + 1) xs) = subst (All (R x)) (rest_is xs (i + 1)) at in
          let pair : R x (get_or (drop (i + 1) xs) (j - (i + 1)) d) = rest (j - (i + 1)) d (omega (arith, length-drop (i + 1) xs)) in
          let place : i + 1 + (j - (i + 1)) ≡ j = omega arith in
          let there : get_or (drop (i + 1) xs) (j - (i + 1)) d ≡ get_or xs j d = get_or-drop (i + 1) xs (j - (i + 1)) d ∙ ap (λ n. get_or xs n d) place in
          let same : x ≡ get_or xs k d = is ∙ get_or_default xs i x d here ∙ ap (λ n. get_or xs n d) (sym same_place) in
          subst (λ y. R y (get_or xs j d)) same (subst (R x) there pair)
    ]

pub all_mapped : {X Y : Type 0} (f : X → Y) (P : Y → Type 0) (xs : List X) → All P (map f xs) → All (λ x. P (f x)) xs
all_mapped f P xs all k d within =
    subst P (get_or-map f xs k d (f d) within) (all k (f d) (omega (arith, length-map xs f, within)))
