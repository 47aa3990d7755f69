-- Numbers of items in lists, and lists that grew.
use Rattle.std.proofs.Common.{◌≡◌, ℕ, zero, suc, ◌≤◌, List, [], ◌∷◌, ◌++◌, length, take, Some, refl, ap, arith}
use Rattle.std.specs.Prelude.{slice_get, slice_set, codes}
use Rattle.std.specs.Str.{chars}

-- a number past a list's end
pub set_past : {A : Type 0} (xs : List A) (i : ℕ) (x : A) → length xs ≤ i → slice_set xs i x ≡ xs
set_past [] i x past = refl
set_past (y ∷ ys) zero x past = absurd (omega arith)
set_past (y ∷ ys) (suc i) x past = ap (λ l. y ∷ l) (set_past ys i x (omega arith))

-- a place that is set, and then set back
pub set_back : {A : Type 0} (xs : List A) (i : ℕ) (x y : A) → slice_get xs i ≡ Some y → slice_set (slice_set xs i x) i y ≡ xs
set_back [] i x y is = refl
set_back (z ∷ xs) zero x y is = ap (λ w. w ∷ xs) (cc)
set_back (z ∷ xs) (suc i) x y is = ap (λ l. z ∷ l) (set_back xs i x y is)

-- a list that grew, and was cut back
pub take_all : {A : Type 0} (xs ys : List A) → take (length xs) (xs ++ ys) ≡ xs
take_all [] ys = refl
take_all (x ∷ xs) ys = ap (λ l. x ∷ l) (take_all xs ys)

pub zero_chars : chars (codes "/ by zero") ≡ codes "/ by zero"
unfolding chars
zero_chars = refl
