-- One more of what is put together.
use Rattle.std.proofs.Common.{◌≡◌, ◌∙◌, ℕ, ◌+◌, ◌<◌, List, map, fold, length, take, get_or, ap, sym}
use Rattle.std.proofs.lemmas.List.Sums.{fold_more}
use Rattle.std.proofs.lemmas.List.Folds.{fold-map}

-- a fold over what became of the items
folded : {A S B : Type 0} (f : B → S → B) (b : B) (h : A → S) (xs : List A) → fold f b (map h xs) ≡ fold (λ b x. f b (h x)) b xs
folded f b h xs = fold-map f h b xs

-- one item more
fold_next : {A S B : Type 0} (f : B → S → B) (b : B) (h : A → S) (xs : List A) (i : ℕ) (x : A) → i < length xs → x ≡ get_or xs i x
    → fold f b (map h (take (i + 1) xs)) ≡ f (fold f b (map h (take i xs))) (h x)
fold_next f b h xs i x within is =
    folded f b h (take (i + 1) xs) ∙ fold_more (λ b x. f b (h x)) b xs i x within
    ∙ ap (λ y. f (fold (λ b x. f b (h x)) b (take i xs)) (h y)) (sym is)
    ∙ ap (λ s. f s (h x)) (sym (folded f b h (take i xs)))

-- what is put together so far, and then what becomes of the next item
pub one_more : {A S B : Type 0} (f : B → S → B) (b : B) (h : A → S) (xs : List A) (i : ℕ) (x : A) (so_far : B) (next : S)
    → i < length xs → x ≡ get_or xs i x → so_far ≡ fold f b (map h (take i xs)) → next ≡ h x
    → f so_far next ≡ fold f b (map h (take (i + 1) xs))
one_more f b h xs i x so_far next within is was become =
    ap (λ s. f s next) was ∙ ap (f (fold f b (map h (take i xs)))) become ∙ sym (fold_next f b h xs i x within is)
