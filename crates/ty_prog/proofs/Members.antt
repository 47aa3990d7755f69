-- The member that is found in a linearisation.
use Rattle.std.proofs.Common.{◌≡◌, ℕ, ◌+◌, ◌≢◌, Bool, true, false, cond, List, [], ◌∷◌, ◌++◌, Option, Some, None, refl, ap, sym, ◌∙◌, subst, ◌⊎◌, inl, inr, suc, arith, nat_lt, if◌then◌else◌}
use Rattle.std.proofs.lemmas.Slice.Eq.{bytes_eq-Decides}
use Rattle.std.specs.Prelude.{IsSome, is_some, ◌&&◌, not, slice_get, option_and_then}
use Rattle.std.specs.Option.{option_map}
use Rattle.std.specs.List.{position_from, AllByRecursion}
use Rattle.std.specs.Str.{bytes_eq}
use Rattle.ty_prog.specs.declared.class.Class.{Class}
use Rattle.ty_prog.specs.Find.{is_concrete, number, own, first_in, behind, IsFirst, IsConcrete}

pub own_first : (classes : List Class) (name : List ℕ) (class : ℕ) (linear : List ℕ) (found : ℕ × ℕ) → own classes name class ≡ Some found → first_in classes name (class ∷ linear) ≡ Some found
own_first classes name class linear found is = rw is

pub inherited : (classes : List Class) (name : List ℕ) (class : ℕ) (linear : List ℕ) → own classes name class ≡ None → first_in classes name (class ∷ linear) ≡ first_in classes name linear
inherited classes name class linear is = rw is

-- an option is None, or Some of a value
one_of : {A : Type 0} (o : Option A) → (o ≡ None) ⊎ ((x : A) × (o ≡ Some x))
one_of None = inl refl
one_of (Some x) = inr (x, refl)

pub find_first : (classes : List Class) (name linear : List ℕ) (found : ℕ × ℕ) → first_in classes name linear ≡ Some found → IsFirst classes name linear found
find_first classes name [] found is = absurd (cc)
find_first classes name (class ∷ linear) found is =
    elim (one_of (own classes name class)) [
      | inl none ↦
          let rest : IsFirst classes name linear found = find_first classes name linear found (sym (inherited classes name class linear none) ∙ is) in
          record {
            before = class ∷ rest.before;
            class = rest.class;
            rest = rest.rest;
            is = ap (λ cs. class ∷ cs) rest.is;
            lacking = (none, rest.lacking);
            gives = rest.gives;
          }
      | inr one ↦
          record {
            before = [];
            class = class;
            rest = linear;
            is = refl;
            lacking = tt;
            gives = one.1 ∙ sym (own_first classes name class linear one.0 one.1) ∙ is;
          }
    ]

pub find_none : (classes : List Class) (name linear : List ℕ) → first_in classes name linear ≡ None → AllByRecursion (λ class. own classes name class ≡ None) linear
find_none classes name [] is = tt
find_none classes name (class ∷ linear) is =
    elim (one_of (own classes name class)) [
      | inl none ↦ (none, find_none classes name linear (sym (inherited classes name class linear none) ∙ is))
      | inr one ↦ absurd (let h : Some one.0 ≡ None = sym (own_first classes name class linear one.0 one.1) ∙ is in cc)
    ]

pub behind_first : (before rest : List ℕ) (after : ℕ) → AllByRecursion (λ class. class ≢ after) before → behind after (before ++ after ∷ rest) ≡ rest
behind_first [] rest after apart = grind arith
behind_first (class ∷ before) rest after apart =
    let other : class ≢ after = apart.0 in
    let more : behind after (before ++ after ∷ rest) ≡ rest = behind_first before rest after apart.1 in
    grind (arith, other, more)

-- the tests of a concrete member
tests : (body static named : Bool) → (body && not static && named) ≡ true → (body ≡ true) × (static ≡ false) × (named ≡ true)
tests true false true h = (refl, refl, refl)
tests true false false h = absurd (cc)
tests true true named h = absurd (cc)
tests false static named h = absurd (cc)

some_is : {A : Type 0} (o : Option A) → is_some o ≡ true → IsSome o
some_is None h = absurd (cc)
some_is (Some x) h = refl

names_same : (xs ys : List ℕ) → bytes_eq xs ys ≡ true → xs ≡ ys
names_same xs ys h = (bytes_eq-Decides xs ys).0 h

-- what `position_from` finds passes the test
position_is : {A : Type 0} (test : A → Bool) (from : ℕ) (xs : List A) (at : ℕ) → position_from test from xs ≡ Some at
    → (j : ℕ) × (x : A) × (at ≡ from + j) × (slice_get xs j ≡ Some x) × (test x ≡ true)
position_is test from [] at is = absurd (cc)
position_is {A} test from (x ∷ xs) at is = here (test x) refl is (position_is test (from + 1) xs at) where
  here : (b : Bool) → test x ≡ b → cond b (Some from) (position_from test (from + 1) xs) ≡ Some at
      → (position_from test (from + 1) xs ≡ Some at → (j : ℕ) × (y : A) × (at ≡ from + 1 + j) × (slice_get xs j ≡ Some y) × (test y ≡ true))
      → (j : ℕ) × (y : A) × (at ≡ from + j) × (slice_get (x ∷ xs) j ≡ Some y) × (test y ≡ true)
  here true passes h more = (0, x, (let same : from ≡ at = cc in omega (arith, same)), refl, passes)
  here false fails h more =
      let found = more h in
      (suc found.0, found.1, omega (arith, found.2), found.3, found.4)

number_is : (b : Bool) (i at : ℕ) → (if b then Some i else None) ≡ Some at → i ≡ at
number_is true i at h = cc
number_is false i at h = absurd (cc)

module _ (classes : List Class) (name : List ℕ) (class : ℕ) (found : ℕ × ℕ) where
  with_position : (c : Class) → slice_get classes class ≡ Some c → (o : Option ℕ) → position_from (is_concrete name) 0 c.methods ≡ o
      → option_map (λ m. (class, m)) (option_and_then number o) ≡ Some found → IsConcrete classes name found
  with_position c there None at h = absurd (cc)
  with_position c there (Some i) at h = numbered (number i) refl h where
    numbered : (o : Option ℕ) → number i ≡ o → option_map (λ m. (class, m)) o ≡ Some found → IsConcrete classes name found
    numbered None n g = absurd (cc)
    numbered (Some m) n g =
        let is_found : (class, m) ≡ found = cc in
        let same : i ≡ m = number_is (nat_lt i 4294967296) i m n in
        let met = position_is (is_concrete name) 0 c.methods i at in
        let passes = tests (is_some met.1.body) met.1.is_static (bytes_eq met.1.name name) met.4 in
        let at_m : met.0 ≡ m = omega (arith, met.2, same) in
        subst (IsConcrete classes name) is_found (record {
          class = c;
          method = met.1;
          class_is = there;
          method_is = subst (λ j. slice_get c.methods j ≡ Some met.1) at_m met.3;
          body = some_is met.1.body passes.0;
          instance = passes.1;
          named = names_same met.1.name name passes.2;
        })

  with_class : (o : Option Class) → slice_get classes class ≡ o
      → option_and_then (λ c. option_map (λ m. (class, m)) (option_and_then number (position_from (is_concrete name) 0 c.methods))) o ≡ Some found
      → IsConcrete classes name found
  with_class None there h = absurd (cc)
  with_class (Some c) there h = with_position c there (position_from (is_concrete name) 0 c.methods) refl h

pub find_concrete : (classes : List Class) (name linear : List ℕ) (found : ℕ × ℕ) → first_in classes name linear ≡ Some found → IsConcrete classes name found
find_concrete classes name linear found is =
    let first = find_first classes name linear found is in
    with_class classes name first.class found (slice_get classes first.class) refl first.gives
