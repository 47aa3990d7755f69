-- Lists whose items are set, and lists with one item more.
use Rattle.std.proofs.Common.{◌≡◌, ℕ, zero, suc, ◌⊎◌, inl, inr, List, [], ◌∷◌, ◌++◌, Option, Some, None, slice_get, slice_set, refl, ap, sym, ◌∙◌, arith}
use Rattle.std.proofs.lemmas.Option.{slice_get_past}

abbrev pub or_else : {A : Type 0} → A → Option A → A
or_else d None = d
or_else d (Some x) = x

pub some_same : {A : Type 0} (x y : A) → Some x ≡ Some y → x ≡ y
some_same x y e = ap (or_else x) e

pub none_at : {A B : Type 0} (i : ℕ) (x : A) → slice_get [] i ≡ Some x → B
none_at {A} i x e = absurd (no_some (sym (slice_get_past {X = A} [] i (omega arith)) ∙ e))
  where
    no_some : None ≡ Some x → ⊥
    no_some e = cc

pub get_set_same : {A : Type 0} (xs : List A) (i : ℕ) (v x : A) → slice_get xs i ≡ Some x → slice_get (slice_set xs i v) i ≡ Some v
get_set_same [] i v x e = none_at i x e
get_set_same (y ∷ xs) zero v x e = refl
get_set_same (y ∷ xs) (suc i) v x e = get_set_same xs i v x e

pub get_set_other : {A : Type 0} (xs : List A) (i j : ℕ) (v : A) → (i ≡ j → ⊥) → slice_get (slice_set xs i v) j ≡ slice_get xs j
get_set_other [] i j v ne = refl
get_set_other (y ∷ xs) zero zero v ne = absurd (ne refl)
get_set_other (y ∷ xs) zero (suc j) v ne = refl
get_set_other (y ∷ xs) (suc i) zero v ne = refl
get_set_other (y ∷ xs) (suc i) (suc j) v ne = get_set_other xs i j v (λ e. ne (ap suc e))

pub get_append : {A : Type 0} (xs : List A) (y : A) (i : ℕ) (x : A) → slice_get xs i ≡ Some x → slice_get (xs ++ y ∷ []) i ≡ Some x
get_append [] y i x e = none_at i x e
get_append (z ∷ xs) y zero x e = e
get_append (z ∷ xs) y (suc i) x e = get_append xs y i x e

pub get_appended : {A : Type 0} (xs : List A) (y : A) (i : ℕ) (x : A) → slice_get (xs ++ y ∷ []) i ≡ Some x → (slice_get xs i ≡ Some x) ⊎ (x ≡ y)
get_appended [] y zero x e = inr (sym (some_same y x e))
get_appended [] y (suc i) x e = none_at i x e
get_appended (z ∷ xs) y zero x e = inl e
get_appended (z ∷ xs) y (suc i) x e = get_appended xs y i x e
