-- What stands for a type stands for each type that it stands for.
use Rattle.std.proofs.Common.{◌≡◌, List, [], ◌∷◌, Bool, true, false, refl, sym, subst}
use Rattle.std.specs.Prelude.{IsTrue, ◌&&◌, not}
use Rattle.ty_prog.specs.declared.class.Class.{Class}
use Rattle.ty_prog.specs.declared.ty.Ty.{Ty}
use Rattle.ty_prog.specs.declared.ty.Ty.TheVariants as ty
use Rattle.ty_conform.specs.Conforms.{conforms, AreClosed}
use Rattle.ty_typed.specs.Stands.{stands_for, is_apart, is_any, fits}

both : (a b : Bool) → IsTrue (a && b) → IsTrue a × IsTrue b
both true true h = (refl, refl)
both true false h = absurd (cc)
both false b h = absurd (cc)

each : (a b : Bool) → IsTrue a → IsTrue b → IsTrue (a && b)
each true true h k = refl
each true false h k = absurd (cc)
each false b h k = absurd (cc)

-- a type apart stands for itself alone
apart_same : (classes : List Class) (lower middle : Ty) → IsTrue (is_apart lower) → IsTrue (stands_for classes lower middle) → lower ≡ middle
apart_same classes ty.Unit ty.Unit a s = refl
apart_same classes ty.Unit other a s = absurd (cc)
apart_same classes ty.Boolean ty.Boolean a s = refl
apart_same classes ty.Boolean other a s = absurd (cc)
apart_same classes ty.Int ty.Int a s = refl
apart_same classes ty.Int other a s = absurd (cc)
apart_same classes ty.Long ty.Long a s = refl
apart_same classes ty.Long other a s = absurd (cc)
apart_same classes ty.Array ty.Array a s = refl
apart_same classes ty.Array other a s = absurd (cc)
apart_same classes other middle a s = absurd (cc)

no_more : (conform apart any : Bool) → IsTrue conform → apart ≡ false → IsTrue (conform && not (apart && any))
no_more true false any c a = refl
no_more true true any c a = absurd (cc)
no_more false apart any c a = absurd (cc)

abbrev pub Transitive : Type 0
Transitive = (classes : List Class) → AreClosed classes → (one two three : Ty)
    → IsTrue (conforms classes one two) → IsTrue (conforms classes two three) → IsTrue (conforms classes one three)

module _ (transitive : Transitive) (classes : List Class) (closed : AreClosed classes) (middle upper : Ty) (above : IsTrue (stands_for classes middle upper)) where
  by_apart : (lower : Ty) (apart : Bool) → is_apart lower ≡ apart → IsTrue (stands_for classes lower middle) → IsTrue (stands_for classes lower upper)
  by_apart lower true is below = subst (λ type. IsTrue (stands_for classes type upper)) (sym (apart_same classes lower middle is below)) above
  by_apart lower false is below =
      no_more (conforms classes lower upper) (is_apart lower) (is_any upper)
      (transitive classes closed lower middle upper
      (both (conforms classes lower middle) (not (is_apart lower && is_any middle)) below).0
      (both (conforms classes middle upper) (not (is_apart middle && is_any upper)) above).0)
      is

  pub fits_up : (types : List Ty) → IsTrue (fits classes types middle) → IsTrue (fits classes types upper)
  fits_up [] h = refl
  fits_up (lower ∷ types) h =
      let parts = both (stands_for classes lower middle) (fits classes types middle) h in
      each (stands_for classes lower upper) (fits classes types upper) (by_apart lower (is_apart lower) refl parts.0) (fits_up types parts.1)
