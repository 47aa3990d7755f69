-- What a class finds, from its parts.
use Rattle.std.proofs.Common.{◌≡◌, ℕ, ◌+◌, ◌<◌, ◌≤◌, List, [], length, get_or, Option, Some, None, refl, ap, sym, subst, ◌∙◌, arith, ◌⊎◌, inl, inr}
use Rattle.std.proofs.lemmas.Bool.Decides.{Decides-eqb}
use Rattle.std.proofs.lemmas.List.Elements.{All-weaker, All-contains, All-contains_itself}
use Rattle.std.proofs.lemmas.List.Folds.{list_any_at}
use Rattle.std.proofs.lemmas.List.Sums.{AllPass-from_list_all, list_all-from_AllPass}
use Rattle.std.proofs.lemmas.Option.{slice_get_within}
use Rattle.std.proofs.lemmas.Map.Views.{Contains-from_any}
use Rattle.std.specs.Prelude.{Bool, true, false, IsTrue, IsSome, is_some, not, ◌||◌, nat_eq, ◌↔◌, slice_get, option_map}
use Rattle.std.specs.List.{All, Contains, list_all}
use Rattle.std.specs.Option.{unwrap_or}
use Rattle.ty_prog.specs.declared.class.Class.{Class}
use Rattle.ty_prog.specs.declared.method.Method.{Method}
use Rattle.ty_prog.specs.declared.program.Program.{Program}
use Rattle.ty_prog.specs.Find.{find, super_find}
use Rattle.ty_linear.specs.Linear.{is_in}
use Rattle.ty_conform.specs.Conforms.{linear_of}
use Rattle.ty_walk.specs.Everywhere.{AllNodesOf, AllNodes}
use Rattle.ty_complete.specs.Complete.{made, super_of, HasObjects, object, created, IsAbove, HasAbove, Agrees, FindsIts, FindsAll}
use Rattle.ty_conform.specs.Kinds.{is_object}
use Rattle.ty_complete.specs.Finding.{makes_other, method_found, methods_found, super_found, HoldsOf, MethodsAgree, ListsAgree, AgreesWith, FindsIn}

one_of : {A : Type 0} (o : Option A) → (o ≡ None) ⊎ ((x : A) × (o ≡ Some x))
one_of None = inl refl
one_of (Some x) = inr (x, refl)

-- objects of a class
other_made : (class : ℕ) (o : Option ℕ) → o ≡ Some class → IsTrue (not (unwrap_or (option_map (nat_eq class) o) false)) → ⊥
other_made class None is other = absurd (cc)
other_made class (Some x) is other =
    let same : class ≡ x = cc in
    let equal : nat_eq class x ≡ true = (Decides-eqb class x).1 same in
    absurd (cc)

not_this : (class : ℕ) (o : Option ℕ) → (o ≡ Some class → ⊥) → IsTrue (not (unwrap_or (option_map (nat_eq class) o) false))
not_this class None apart = refl
not_this class (Some x) apart = by_test (nat_eq class x) refl where
  by_test : (b : Bool) → nat_eq class x ≡ b → IsTrue (not b)
  by_test false is = refl
  by_test true is = absurd (apart (ap (λ n. Some n) (sym ((Decides-eqb class x).0 is))))

module _ (p : Program) (class : ℕ) where
  no_objects : is_object p.classes class ≡ false → AllNodes (λ node. IsTrue (makes_other class node)) p → HasObjects p class → ⊥
  no_objects none all (object is) = absurd (cc)
  no_objects none all (created maker node has stands is) =
      other_made class (made node) is ((All-contains (AllNodesOf (λ n. IsTrue (makes_other class n))) p.classes maker all has).each node stands)

  others_made : (HasObjects p class → ⊥) → AllNodes (λ node. IsTrue (makes_other class node)) p
  others_made lacks =
      All-weaker (Contains p.classes) (AllNodesOf (λ n. IsTrue (makes_other class n)))
      (λ maker has. record { each = λ node stands. not_this class (made node) (λ is. lacks (created maker node has stands is)) })
      p.classes (All-contains_itself p.classes)

  pub lacks_told : (answer : Bool) → is_object p.classes class ≡ false → (IsTrue answer ↔ AllNodes (λ node. IsTrue (makes_other class node)) p)
      → IsTrue answer ↔ (HasObjects p class → ⊥)
  lacks_told answer none told = (λ h. no_objects none (told.0 h), λ lacks. told.1 (others_made lacks))

some_injective : {A : Type 0} (x y : A) → Some x ≡ Some y → x ≡ y
some_injective x y h = cc

-- the class with a number
module _ (classes : List Class) (P : Class → Type 0) (number : ℕ) where
  holds_of : (class : Class) → slice_get classes number ≡ Some class → P class → HoldsOf classes P number
  holds_of class is holds = record { each = λ other there. subst P (some_injective class other (sym is ∙ there)) holds }

  pub holds_told : (class : Class) (answer : Bool) → slice_get classes number ≡ Some class → (IsTrue answer ↔ P class)
      → IsTrue answer ↔ HoldsOf classes P number
  holds_told class answer is told = (λ h. holds_of class is (told.0 h), λ all. told.1 (all.each class is))

-- the members of a list of numbers
has_number : (xs : List ℕ) (x : ℕ) → IsTrue (is_in xs x) → Contains xs x
has_number xs x is = Contains-from_any (λ a b same. (Decides-eqb a b).0 same) x xs is

is_number : (xs : List ℕ) (x : ℕ) → Contains xs x → IsTrue (is_in xs x)
is_number xs x at =
    let equal : nat_eq x (get_or xs at.0 x) ≡ true = (Decides-eqb x (get_or xs at.0 x)).1 (sym at.2) in
    list_any_at (nat_eq x) xs at.0 x at.1 equal

some_found : {A : Type 0} (o : Option A) → is_some o ≡ true → IsSome o
some_found None h = absurd (cc)
some_found (Some x) h = refl

is_found : {A : Type 0} (o : Option A) → IsSome o → is_some o ≡ true
is_found None h = absurd (cc)
is_found (Some x) h = refl

or_found : (static found : Bool) → IsTrue (static || found) → static ≡ false → found ≡ true
or_found true found h is = absurd (cc)
or_found false found h is = h

found_or : (static found : Bool) → (static ≡ false → found ≡ true) → IsTrue (static || found)
found_or true found h = refl
found_or false found h = h refl

-- what is called by `super`
super_told : (p : Program) (class : ℕ) (called : Option (ℕ × List ℕ)) (after : ℕ) (name : List ℕ) → called ≡ Some (after, name)
    → IsTrue (unwrap_or (option_map (λ s. is_some (super_find p class s.0 s.1)) called) true) → IsSome (super_find p class after name)
super_told p class called after name is told =
    some_found (super_find p class after name)
    (subst (λ o. IsTrue (unwrap_or (option_map (λ s. is_some (super_find p class s.0 s.1)) o) true)) is told)

super_kept : (p : Program) (class : ℕ) (called : Option (ℕ × List ℕ))
    → ((after : ℕ) (name : List ℕ) → called ≡ Some (after, name) → IsSome (super_find p class after name))
    → IsTrue (unwrap_or (option_map (λ s. is_some (super_find p class s.0 s.1)) called) true)
super_kept p class None found = refl
super_kept p class (Some s) found = is_found (super_find p class s.0 s.1) (found s.0 s.1 refl)

-- methods of one name in a linearisation
module _ (p : Program) (linear : List ℕ) where
  agree_part : All (HoldsOf p.classes (AgreesWith p.classes linear)) linear → (one two : Class) (first second : Method)
      → IsAbove p linear one → IsAbove p linear two → Contains one.methods first → Contains two.methods second → MethodsAgree first second
  agree_part all one two first second has other in_one in_two =
      let with_one : AgreesWith p.classes linear one =
      (All-contains (HoldsOf p.classes (AgreesWith p.classes linear)) linear has.number all (has_number linear has.number has.has)).each one has.is in
      let with_two : ListsAgree one.methods two.methods =
      (All-contains (HoldsOf p.classes (λ c. ListsAgree one.methods c.methods)) linear other.number with_one (has_number linear other.number other.has)).each two other.is in
      let with_first : All (MethodsAgree first) two.methods =
      All-contains (λ m. All (MethodsAgree m) two.methods) one.methods first with_two in_one in
      All-contains (MethodsAgree first) two.methods second with_first in_two

  part_agree : ((one two : Class) (first second : Method) → IsAbove p linear one → IsAbove p linear two
      → Contains one.methods first → Contains two.methods second → MethodsAgree first second)
      → All (HoldsOf p.classes (AgreesWith p.classes linear)) linear
  part_agree agree =
      All-weaker (Contains linear) (HoldsOf p.classes (AgreesWith p.classes linear)) (λ number at. record {
        each = λ one is.
            All-weaker (Contains linear) (HoldsOf p.classes (λ c. ListsAgree one.methods c.methods)) (λ other at_other. record {
              each = λ two is_two.
                  All-weaker (Contains one.methods) (λ m. All (MethodsAgree m) two.methods) (λ first in_one.
                  All-weaker (Contains two.methods) (MethodsAgree first) (λ second in_two.
                  agree one two first second (record { number = number; has = is_number linear number at; is = is }) (record { number = other; has = is_number linear other at_other; is = is_two }) in_one in_two)
                  two.methods (All-contains_itself two.methods))
                  one.methods (All-contains_itself one.methods);
            })
            linear (All-contains_itself linear);
      })
      linear (All-contains_itself linear)

  pub agrees_told : (answer : Bool) → (IsTrue answer ↔ All (HoldsOf p.classes (AgreesWith p.classes linear)) linear) → IsTrue answer ↔ Agrees p linear
  agrees_told answer told = (
    λ h. record { each = λ one two first second has other in_one in_two. (agree_part (told.0 h) one two first second has other in_one in_two).each },
    λ all. told.1 (part_agree (λ one two first second has other in_one in_two. record { each = all.each one two first second has other in_one in_two })),
  )

module _ (p : Program) (class : ℕ) where
  -- the methods of a class with a number
  number_told : (number : ℕ) (above : Class) → slice_get p.classes number ≡ Some above → IsTrue (methods_found p class number)
      → IsTrue (list_all (method_found p class) above.methods)
  number_told number above is told =
      subst (λ o. IsTrue (unwrap_or (option_map (λ c. list_all (method_found p class) c.methods) o) true)) is told

  number_kept : (o : Option Class) → ((above : Class) → o ≡ Some above → IsTrue (list_all (method_found p class) above.methods))
      → IsTrue (unwrap_or (option_map (λ c. list_all (method_found p class) c.methods) o) true)
  number_kept None each = refl
  number_kept (Some above) each = each above refl

  module _ (linear : List ℕ) (same : linear_of p.classes class ≡ linear) where
    in_list : (number : ℕ) → IsTrue (is_in (linear_of p.classes class) number) → Contains linear number
    in_list number has = has_number linear number (subst (λ xs. IsTrue (is_in xs number)) same has)

    from_list : (number : ℕ) → Contains linear number → IsTrue (is_in (linear_of p.classes class) number)
    from_list number at = subst (λ xs. IsTrue (is_in xs number)) (sym same) (is_number linear number at)

    above_at : (number : ℕ) (above : Class) → Contains linear number → slice_get p.classes number ≡ Some above → HasAbove p class above
    above_at number above at is = record { number = number; has = from_list number at; is = is }

    found_part : IsTrue (list_all (methods_found p class) linear) → (above : Class) (method : Method) → HasAbove p class above
        → Contains above.methods method → method.is_static ≡ false → IsSome (find p class method.name)
    found_part all above method has there static =
        let at_number = All-contains (λ n. IsTrue (methods_found p class n)) linear has.number
        (AllPass-from_list_all (methods_found p class) linear all) (in_list has.number has.has) in
        let methods = AllPass-from_list_all (method_found p class) above.methods (number_told has.number above has.is at_number) in
        let one = All-contains (λ m. IsTrue (method_found p class m)) above.methods method methods there in
        some_found (find p class method.name) (or_found method.is_static (is_some (find p class method.name)) one static)

    part_found : ((above : Class) (method : Method) → HasAbove p class above → Contains above.methods method → method.is_static ≡ false
        → IsSome (find p class method.name)) → IsTrue (list_all (methods_found p class) linear)
    part_found found =
        list_all-from_AllPass (methods_found p class) linear
        (All-weaker (Contains linear) (λ n. IsTrue (methods_found p class n))
        (λ number at. number_kept (slice_get p.classes number) (λ above is.
        list_all-from_AllPass (method_found p class) above.methods
        (All-weaker (Contains above.methods) (λ m. IsTrue (method_found p class m))
        (λ method there. found_or method.is_static (is_some (find p class method.name))
        (λ static. is_found (find p class method.name) (found above method (above_at number above at is) there static)))
        above.methods (All-contains_itself above.methods))))
        linear (All-contains_itself linear))

    finds_its : FindsIn p class linear → FindsIts p class
    finds_its parts = record {
      found = found_part parts.found;
      super = λ above node after name has stands is.
          super_told p class (super_of node) after name is
          (((All-contains (HoldsOf p.classes (AllNodesOf (λ n. IsTrue (super_found p class n)))) linear has.number parts.super (in_list has.number has.has)).each above has.is).each node stands);
    }

    finds_in : FindsIts p class → FindsIn p class linear
    finds_in finds = record {
      found = part_found finds.found;
      super = All-weaker (Contains linear) (HoldsOf p.classes (AllNodesOf (λ n. IsTrue (super_found p class n))))
          (λ number at. record {
            each = λ above is. record {
              each = λ node stands.
                  super_kept p class (super_of node) (λ after name called. finds.super above node after name (above_at number above at is) stands called);
            };
          })
          linear (All-contains_itself linear);
    }

  -- a number that is no class's
  pub finds_nothing : slice_get p.classes class ≡ None → FindsIts p class
  finds_nothing none = record {
    found = λ above method has. absurd (nothing has.number has.has);
    super = λ above node after name has. absurd (nothing has.number has.has);
  } where
    nothing : (number : ℕ) → IsTrue (is_in (linear_of p.classes class) number) → ⊥
    nothing number has =
        let same : linear_of p.classes class ≡ [] = ap (λ o. unwrap_or (option_map (λ c. c.linear) o) []) none in
        let h : false ≡ true = sym (ap (λ xs. is_in xs number) same) ∙ has in
        absurd (cc)

  pub finds_told : (c : Class) → slice_get p.classes class ≡ Some c → (answer : Bool) → (IsTrue answer ↔ FindsIn p class c.linear)
      → IsTrue answer ↔ FindsIts p class
  finds_told c is answer told =
      let same : linear_of p.classes class ≡ c.linear = ap (λ o. unwrap_or (option_map (λ c. c.linear) o) []) is in
      (λ h. finds_its c.linear same (told.0 h), λ finds. told.1 (finds_in c.linear same finds))

  pub must_told : (lacks answer : Bool) → lacks ≡ false → (IsTrue lacks ↔ (HasObjects p class → ⊥)) → (IsTrue answer ↔ FindsIts p class)
      → IsTrue answer ↔ (HasObjects p class → FindsIts p class)
  must_told lacks true is objects told = (λ h has. told.0 refl, λ must. refl)
  must_told lacks false is objects told =
      (λ h. absurd (cc), λ must. absurd (let l : lacks ≡ true = objects.1 (λ has. let k : false ≡ true = told.1 (must has) in absurd (cc)) in cc))

last_or_before : (j i : ℕ) → j < i + 1 → (j < i) ⊎ (j ≡ i)
last_or_before j i below = grind arith

-- the steps of a loop over the numbers of classes
module _ (p : Program) where
  -- each class before this number that has objects finds its methods
  abbrev pub AllBefore : ℕ → Type 0
  AllBefore number = (class : ℕ) → class < number → HasObjects p class → FindsIts p class

  pub broken_at_number : (number : ℕ) (answer : Bool) → (IsTrue answer ↔ (HasObjects p number → FindsIts p number)) → answer ≡ false
      → IsTrue false ↔ FindsAll p
  broken_at_number number answer told is = (λ h. absurd (cc), λ all. let kept : answer ≡ true = told.1 (all number) in cc)

  pub kept_at_number : (number : ℕ) (answer : Bool) → (IsTrue answer ↔ (HasObjects p number → FindsIts p number)) → answer ≡ true
      → AllBefore number → AllBefore (number + 1)
  kept_at_number number answer told is before class below has =
      elim (last_or_before class number below) [
        | inl earlier ↦ before class earlier has
        | inr last ↦ subst (λ n. HasObjects p n → FindsIts p n) (sym last) (told.0 is) has
      ]

  pub kept_at_all : (number : ℕ) → length p.classes ≤ number → AllBefore number → IsTrue true ↔ FindsAll p
  kept_at_all number past before = (λ h class has. each class (one_of (slice_get p.classes class)) has, λ all. refl) where
    each : (class : ℕ) → (slice_get p.classes class ≡ None) ⊎ ((c : Class) × (slice_get p.classes class ≡ Some c)) → HasObjects p class → FindsIts p class
    each class (inl none) has = finds_nothing p class none
    each class (inr one) has = before class (omega (arith, slice_get_within p.classes class one.0 one.1, past)) has
