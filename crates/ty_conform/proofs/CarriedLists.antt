-- Linearisations that classes carry have those of the classes in them.
use Rattle.std.proofs.Common.{◌≡◌, ◌⊎◌, inl, inr, ◌∙◌, ℕ, ◌<◌, zero, suc, Bool, true, false, List, [], ◌∷◌, length, map, get_or, refl, sym, subst, arith, nat_eq}
use Rattle.std.proofs.Common.{◌||◌}
use Rattle.std.specs.Prelude.{◌↔◌}
use Rattle.std.specs.List.{Contains}
use Rattle.std.proofs.lemmas.List.{length-map}
use Rattle.ty_prog.specs.declared.class.Class.{Class}
use Rattle.ty_prog.specs.declared.program.Program.{Program}
use Rattle.ty_linear.specs.Linear.{is_in, IsAncestor, parent, beyond, IsLinearisation}
use Rattle.ty_conform.specs.Conforms.{linear_of, AreClosed, AreOneWay}
use Rattle.ty_conform.specs.Carried.{HasLinearisations}

linear_at : (classes : List Class) (class : ℕ) → get_or (map (λ c. c.linear) classes) class [] ≡ linear_of classes class
linear_at [] class = refl
linear_at (c ∷ classes) zero = refl
linear_at (c ∷ classes) (suc class) = linear_at classes class

-- a class that stands somewhere in the linearisation of another makes that one be a class
within : (classes : List Class) (class x : ℕ) → is_in (linear_of classes class) x ≡ true → class < length classes
within [] class x is = absurd (cc)
within (c ∷ classes) zero x is = omega arith
within (c ∷ classes) (suc class) x is = let more = within classes class x is in omega (arith, more)

contained : (xs : List ℕ) (x : ℕ) → is_in xs x ≡ true → Contains xs x
contained [] x is = absurd (cc)
contained (y ∷ ys) x is = by_test (nat_eq x y) refl is (contained ys x) where
  by_test : (b : Bool) → nat_eq x y ≡ b → (b || is_in ys x) ≡ true → (is_in ys x ≡ true → Contains ys x) → Contains (y ∷ ys) x
  by_test true same h more = (0, omega arith, grind (arith, same))
  by_test false other h more = let rest = more h in (suc rest.0, omega (arith, rest.1), rest.2)

stands : (xs : List ℕ) (x k : ℕ) → k < length xs → get_or xs k x ≡ x → is_in xs x ≡ true
stands [] x k h is = absurd (omega arith)
stands (y ∷ ys) x zero h is = grind (arith, is)
stands (y ∷ ys) x (suc k) h is = let more : is_in ys x ≡ true = stands ys x k (omega arith) is in grind (arith, more)

chain : (parents : List (List ℕ)) (a b c : ℕ) → IsAncestor parents a b → IsAncestor parents b c → IsAncestor parents a c
chain parents a b c first (parent _ _ has) = beyond a b c has first
chain parents a b c first (beyond _ middle _ has rest) = beyond a middle c has (chain parents a b middle first rest)

joined : (parents : List (List ℕ)) (lower middle upper : ℕ) → (middle ≡ lower) ⊎ IsAncestor parents middle lower
    → (upper ≡ middle) ⊎ IsAncestor parents upper middle → (upper ≡ lower) ⊎ IsAncestor parents upper lower
joined parents lower middle upper (inl a) (inl b) = inl (b ∙ a)
joined parents lower middle upper (inl a) (inr b) = inr (let P : ℕ → Type 0 = λ c. IsAncestor parents upper c in subst P a b)
joined parents lower middle upper (inr a) (inl b) = inr (let P : ℕ → Type 0 = λ c. IsAncestor parents c lower in subst P (sym b) a)
joined parents lower middle upper (inr a) (inr b) = inr (chain parents upper middle lower b a)

apart : (parents : List (List ℕ)) (one other : ℕ) → ¬ (IsAncestor parents one one) → (other ≡ one) ⊎ IsAncestor parents other one
    → (one ≡ other) ⊎ IsAncestor parents one other → one ≡ other
apart parents one other acyclic (inl a) b = sym a
apart parents one other acyclic (inr a) (inl b) = b
apart parents one other acyclic (inr a) (inr b) = absurd (acyclic (chain parents one other one b a))

abbrev pub MembersLaw : Type 0
MembersLaw = (parents : List (List ℕ)) (class : ℕ) (list : List ℕ) → IsLinearisation parents class list
    → (member : ℕ) → Contains list member ↔ ((member ≡ class) ⊎ IsAncestor parents member class)

abbrev pub AcyclicLaw : Type 0
AcyclicLaw = (parents : List (List ℕ)) (class : ℕ) (list : List ℕ) → IsLinearisation parents class list → ¬ (IsAncestor parents class class)

abbrev pub parents_in : Program → List (List ℕ)
parents_in p = map (λ c. c.parents) p.classes

linear : (p : Program) → HasLinearisations p → (class : ℕ) → class < length p.classes
    → IsLinearisation (parents_in p) class (linear_of p.classes class)
linear p is class h =
    let count : length (parents_in p) ≡ length p.classes = length-map p.classes (λ (c : Class). c.parents) in
    let P : List ℕ → Type 0 = λ list. IsLinearisation (parents_in p) class list in
    subst P (linear_at p.classes class) (is.each class (omega (arith, count, h)))

above : MembersLaw → (p : Program) → HasLinearisations p → (class x : ℕ) → is_in (linear_of p.classes class) x ≡ true
    → (x ≡ class) ⊎ IsAncestor (parents_in p) x class
above members p is class x h =
    (members (parents_in p) class (linear_of p.classes class) (linear p is class (within p.classes class x h)) x).0
    (contained (linear_of p.classes class) x h)

pub carried_closed : MembersLaw → (p : Program) → HasLinearisations p → AreClosed p.classes
carried_closed members p is lower middle upper one two =
    let inside : lower < length p.classes = within p.classes lower middle one in
    let reached = joined (parents_in p) lower middle upper (above members p is lower middle one) (above members p is middle upper two) in
    let found = (members (parents_in p) lower (linear_of p.classes lower) (linear p is lower inside) upper).1 reached in
    stands (linear_of p.classes lower) upper found.0 found.1 found.2

pub carried_one_way : MembersLaw → AcyclicLaw → (p : Program) → HasLinearisations p → AreOneWay p.classes
carried_one_way members acyclic p is one other first second =
    let inside : one < length p.classes = within p.classes one other first in
    apart (parents_in p) one other (acyclic (parents_in p) one (linear_of p.classes one) (linear p is one inside))
    (above members p is one other first) (above members p is other one second)
