-- The first four items of a list.
use Rattle.std.proofs.Common.{◌≡◌, ℕ, List, [], ◌∷◌, drop, Option, Some, refl, ap, ◌∙◌}
use Rattle.std.specs.Prelude.{slice_get}

pub drop_next : {A : Type 0} (xs : List A) → drop 1 (drop 3 xs) ≡ drop 4 xs
drop_next [] = refl
drop_next (a ∷ []) = refl
drop_next (a ∷ b ∷ []) = refl
drop_next (a ∷ b ∷ c ∷ []) = refl
drop_next (a ∷ b ∷ c ∷ d ∷ xs) = refl

pub four : {A : Type 0} (xs : List A) (a b c d : A) → slice_get xs 0 ≡ Some a → slice_get xs 1 ≡ Some b → slice_get xs 2 ≡ Some c → slice_get xs 3 ≡ Some d
    → xs ≡ a ∷ b ∷ c ∷ d ∷ drop 4 xs
four [] a b c d e1 e2 e3 e4 = absurd (cc)
four (w ∷ []) a b c d e1 e2 e3 e4 = absurd (cc)
four (w ∷ x ∷ []) a b c d e1 e2 e3 e4 = absurd (cc)
four (w ∷ x ∷ y ∷ []) a b c d e1 e2 e3 e4 = absurd (cc)
four (w ∷ x ∷ y ∷ z ∷ xs) a b c d e1 e2 e3 e4 = cc
