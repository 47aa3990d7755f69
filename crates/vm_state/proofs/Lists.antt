-- Lists from an item on.
use Rattle.std.proofs.Common.{◌≡◌, ℕ, zero, suc, List, [], ◌∷◌, drop, take, ◌<◌, Some, arith, refl, ap}
use Rattle.std.specs.Prelude.{slice_get}

pub drop_item : {A : Type 0} (xs : List A) (k : ℕ) (x : A) → slice_get xs k ≡ Some x → drop k xs ≡ x ∷ drop (suc k) xs
drop_item [] k x is = cc
drop_item (y ∷ ys) zero x is = ap (λ z. z ∷ ys) (cc)
drop_item (y ∷ ys) (suc k) x is = drop_item ys k x is

pub slice_get-take : {A : Type 0} (xs : List A) (n k : ℕ) → k < n → slice_get (take n xs) k ≡ slice_get xs k
slice_get-take xs zero k lt = absurd (omega arith)
slice_get-take [] (suc n) k lt = refl
slice_get-take (x ∷ xs) (suc n) zero lt = refl
slice_get-take (x ∷ xs) (suc n) (suc k) lt = slice_get-take xs n k (omega arith)
