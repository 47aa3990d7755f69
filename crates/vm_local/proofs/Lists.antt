-- The first items of lists.
use Rattle.std.proofs.Common.{◌≡◌, List, [], ◌∷◌, drop, refl}
use Rattle.std.specs.Prelude.{slice_get}

-- the first item but one
pub second : {A : Type 0} (xs : List A) → slice_get (drop 1 xs) 0 ≡ slice_get xs 1
second [] = refl
second (x ∷ []) = refl
second (x ∷ y ∷ ys) = refl
