-- A member of a class in a linearisation makes one be found there.
use Rattle.std.proofs.Common.{◌≡◌, ℕ, Bool, true, false, List, [], ◌∷◌, Option, Some, None, refl, sym, ◌∙◌, subst, ◌⊎◌, inl, inr, arith}
use Rattle.std.proofs.Common.{◌||◌}
use Rattle.std.specs.Prelude.{IsTrue, slice_get, ◌==◌, option_and_then, option_map}
use Rattle.std.specs.Option.{unwrap_or}
use Rattle.ty_prog.specs.declared.class.Class.{Class}
use Rattle.ty_prog.specs.declared.program.Program.{Program}
use Rattle.ty_prog.specs.Find.{own, first_in, find}
use Rattle.ty_linear.specs.Linear.{is_in}
use Rattle.ty_conform.specs.Conforms.{linear_of, AreClosed}

-- an option is None, or Some of a value
one_of : {A : Type 0} (o : Option A) → (o ≡ None) ⊎ ((x : A) × (o ≡ Some x))
one_of None = inl refl
one_of (Some x) = inr (x, refl)

-- `find` looks through the class's linearisation
pub find_linear : (p : Program) (class : ℕ) (name : List ℕ) → find p class name ≡ first_in p.classes name (linear_of p.classes class)
find_linear p class name = of_class (slice_get p.classes class) where
  of_class : (o : Option Class) → option_and_then (λ c. first_in p.classes name c.linear) o
      ≡ first_in p.classes name (unwrap_or (option_map (λ c. c.linear) o) [])
  of_class None = refl
  of_class (Some c) = refl

-- what is found is a class's of the list
giver : (classes : List Class) (name linear : List ℕ) (found : ℕ × ℕ) → first_in classes name linear ≡ Some found
    → (class : ℕ) × IsTrue (is_in linear class) × (own classes name class ≡ Some found)
giver classes name [] found is = absurd (cc)
giver classes name (class ∷ linear) found is =
    elim (one_of (own classes name class)) [
      | inl none ↦
          let here : first_in classes name linear ≡ Some found = rw none at is in
          let more = giver classes name linear found here in
          let rest : is_in linear more.0 ≡ true = more.1 in
          (more.0, grind (arith, rest), more.2)
      | inr one ↦
          let both : Some one.0 ≡ Some found = rw one.1 at is in
          let same : one.0 ≡ found = cc in
          (class, grind arith, grind (arith, one.1))
    ]

-- a class of the list that gives one makes one be found
taker : (classes : List Class) (name linear : List ℕ) (class : ℕ) (found : ℕ × ℕ) → IsTrue (is_in linear class)
    → own classes name class ≡ Some found → (other : ℕ × ℕ) × (first_in classes name linear ≡ Some other)
taker classes name [] class found is gives = absurd (cc)
taker classes name (first ∷ linear) class found is gives =
    elim (one_of (own classes name first)) [
      | inl none ↦
          let rest : is_in linear class ≡ true = grind (arith, is, none, gives) in
          let more = taker classes name linear class found rest gives in
          (more.0, rw none more.1)
      | inr one ↦ (one.0, rw one.1 refl)
    ]

below : (lower upper : ℕ) (linear : List ℕ) → ((lower == upper) || is_in linear upper) ≡ true → (lower ≡ upper) ⊎ IsTrue (is_in linear upper)
below lower upper linear is = by_test (lower == upper) refl is where
  by_test : (b : Bool) → (lower == upper) ≡ b → (b || is_in linear upper) ≡ true → (lower ≡ upper) ⊎ IsTrue (is_in linear upper)
  by_test true same h = inl (grind (arith, same))
  by_test false other h = inr h

pub found_below : (p : Program) (lower upper : ℕ) (name : List ℕ) (found : ℕ × ℕ) → AreClosed p.classes
    → ((lower == upper) || is_in (linear_of p.classes lower) upper) ≡ true → find p upper name ≡ Some found
    → (other : ℕ × ℕ) × (find p lower name ≡ Some other)
found_below p lower upper name found closed is there =
    elim (below lower upper (linear_of p.classes lower) is) [
      | inl same ↦ (found, subst (λ class. find p class name ≡ Some found) (sym same) there)
      | inr above ↦
          let gives = giver p.classes name (linear_of p.classes upper) found (sym (find_linear p upper name) ∙ there) in
          let has = taker p.classes name (linear_of p.classes lower) gives.0 found (closed lower upper gives.0 above gives.1) gives.2 in
          (has.0, find_linear p lower name ∙ has.1)
    ]
