-- What holds of each class and its number, class by class.
use Rattle.std.proofs.Common.{◌≡◌, ◌∙◌, ℕ, ◌+◌, ◌<◌, ◌≤◌, List, length, get_or, Some, sym, ap, subst, arith, ◌⊎◌, inl, inr}
use Rattle.std.proofs.lemmas.Option.{slice_get_within, slice_get-get_or, get_or_from_slice_get}
use Rattle.std.specs.Prelude.{slice_get}
use Rattle.ty_prog.specs.declared.class.Class.{Class}
use Rattle.ty_good.specs.Each.{EachClass}

last_or_before : (j i : ℕ) → j < i + 1 → (j < i) ⊎ (j ≡ i)
last_or_before j i below = grind arith

module _ (P : ℕ → Class → Type 0) (classes : List Class) where
  -- P holds of the classes before a number
  abbrev pub AllBefore : ℕ → Type 0
  AllBefore number = (k : ℕ) (class : Class) → k < number → slice_get classes k ≡ Some class → P k class

  pub kept_more : (number : ℕ) (c : Class) → number < length classes → c ≡ get_or classes number c → P number c → AllBefore number → AllBefore (number + 1)
  kept_more number c within is kept before k class below at =
      elim (last_or_before k number below) [
        | inl earlier ↦ before k class earlier at
        | inr last ↦
            let found : get_or classes k c ≡ class = get_or_from_slice_get classes k class c at in
            let same : c ≡ class = is ∙ ap (λ n. get_or classes n c) (sym last) ∙ found in
            subst (λ n. P n class) (sym last) (subst (P number) same kept)
      ]

  pub kept_all : (number : ℕ) → length classes ≤ number → AllBefore number → EachClass P classes
  kept_all number past before = record { each = λ k class at. before k class (omega (arith, slice_get_within classes k class at, past)) at }

  pub at_number : (number : ℕ) (c : Class) → number < length classes → c ≡ get_or classes number c → EachClass P classes → P number c
  at_number number c within is all = all.each number c (slice_get-get_or classes number c within ∙ ap (λ x. Some x) (sym is))
