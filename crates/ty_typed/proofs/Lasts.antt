-- The last of several, and the rest of a list.
use Rattle.std.proofs.Common.{◌≡◌, ◌-◌, ◌≤◌, suc, List, [], ◌∷◌, length, map, get_or, refl, arith}
use Rattle.ty_prog.specs.declared.ty.Ty.{Ty}
use Rattle.ty_typed.specs.Types.{last_of}

pub last_of_map : {A : Type 0} (f : A → List Ty) (xs : List A) (d : A) → 1 ≤ length xs → last_of (map f xs) ≡ f (get_or xs (length xs - 1) d)
last_of_map f [] d h = absurd (omega arith)
last_of_map f (x ∷ []) d h = refl
last_of_map f (x ∷ y ∷ rest) d h =
    let e : length (x ∷ y ∷ rest) - 1 ≡ suc (length (y ∷ rest) - 1) = omega arith in
    rw e (last_of_map f (y ∷ rest) d (omega arith))
