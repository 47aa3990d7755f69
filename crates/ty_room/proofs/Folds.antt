-- One more of what is summed.
use Rattle.std.proofs.Common.{◌≡◌, ◌∙◌, ℕ, ◌+◌, ◌<◌, List, map, fold, sum_by, length, take, get_or, ap, sym, arith}
use Rattle.std.proofs.lemmas.List.Sums.{fold_more, sum_by_more}
use Rattle.std.proofs.lemmas.List.Folds.{fold-map}
use Rattle.ty_room.specs.Capped.{capped}

-- a fold over what became of the items
pub folded : {A S B : Type 0} (f : B → S → B) (b : B) (h : A → S) (xs : List A) → fold f b (map h xs) ≡ fold (λ b x. f b (h x)) b xs
folded f b h xs = fold-map f h b xs

-- one item more
pub fold_next : {A S B : Type 0} (f : B → S → B) (b : B) (h : A → S) (xs : List A) (i : ℕ) (x : A) → i < length xs → x ≡ get_or xs i x
    → fold f b (map h (take (i + 1) xs)) ≡ f (fold f b (map h (take i xs))) (h x)
fold_next f b h xs i x within is =
    folded f b h (take (i + 1) xs) ∙ fold_more (λ b x. f b (h x)) b xs i x within
    ∙ ap (λ y. f (fold (λ b x. f b (h x)) b (take i xs)) (h y)) (sym is)
    ∙ ap (λ s. f s (h x)) (sym (folded f b h (take i xs)))

-- one number more
pub sum_next : {A : Type 0} (f : A → ℕ) (xs : List A) (i : ℕ) (x : A) (so_far more next : ℕ) → i < length xs → x ≡ get_or xs i x
    → so_far ≡ capped (sum_by f (take i xs)) → next ≡ capped (so_far + more) → capped more ≡ capped (f x)
    → next ≡ capped (sum_by f (take (i + 1) xs))
sum_next f xs i x so_far more next within is was sum same =
    let last : sum_by f (take (i + 1) xs) ≡ sum_by f (take i xs) + f x = sum_by_more f xs i x within ∙ ap (λ y. sum_by f (take i xs) + f y) (sym is) in
    omega (arith, was, last, sum, same)
