-- Lists that are each merged from those of the parents are the linearisations.
use Rattle.std.proofs.Common.{◌≡◌, ◌≢◌, ◌∙◌, ℕ, ◌<◌, ◌≤◌, suc, Bool, true, false, not, ◌&&◌, ◌||◌, List, [], ◌∷◌, reverse, length, map, get_or, refl, sym, ap, subst, inl, inr, arith, eqb}
use Rattle.std.specs.List.{filter, AllPairs, Contains}
use Rattle.std.specs.Cmp.{nat_eq_equiv}
use Rattle.std.proofs.lemmas.Bool.{eqb-true, eq-eqb, cases_lt, cases_Bool, or_left, or_right}
use Rattle.std.proofs.lemmas.List.{get_or-map, get_or_past, length-map}
use Rattle.std.proofs.lemmas.List.Folds.{list_any-append}
use Rattle.std.proofs.lemmas.List.Sorted.{list_any-IsPermutation, IsPermutation-reverse}
use Rattle.std.specs.Prelude.{Option, option_map}
use Rattle.std.specs.Option.{unwrap_or}
use Rattle.std.proofs.lemmas.Option.{slice_get-get_or, slice_get_past}
use Rattle.std.proofs.lemmas.Map.Views.{any-filter_same, Contains-from_any, list_any-from_Contains}
use Rattle.ty_prog.specs.declared.class.Class.{Class}
use Rattle.ty_prog.specs.declared.program.Program.{Program}
use Rattle.ty_linear.specs.Linear.{parents_of, is_in, ◌+>◌, IsMerged, none, more, IsLinearisation, IsAncestor, parent, beyond, IsAcyclic}
use Rattle.ty_conform.specs.Carried.{HasLinearisations}
use Rattle.ty_complete.specs.Merged.{carried, merged, AreCarried}

-- the parents that classes name
abbrev pub table : List Class → List (List ℕ)
table classes = map (λ c. c.parents) classes

-- what a class carries has all that is merged from the parents
abbrev Is : List Class → Type 0
Is classes = (class : ℕ) → carried classes class ≡ class ∷ merged classes (reverse (parents_of (table classes) class))

abbrev Lacks : List Class → Type 0
Lacks classes = (class : ℕ) → is_in (merged classes (reverse (parents_of (table classes) class))) class ≡ false

abbrev pub OnlyLaw : Type 0
OnlyLaw = (parents : List (List ℕ)) (class : ℕ) (one other : List ℕ) → IsLinearisation parents class one → IsLinearisation parents class other → one ≡ other

abbrev pub DistinctLaw : Type 0
DistinctLaw = (parents : List (List ℕ)) (class : ℕ) (list : List ℕ) → IsLinearisation parents class list → AllPairs (λ one other. one ≢ other) list

abbrev pub ExistsLaw : Type 0
ExistsLaw = (parents : List (List ℕ)) → IsAcyclic parents → (class : ℕ) → (list : List ℕ) × IsLinearisation parents class list

-- what a derivation merges is what is merged from what is carried
merges : (classes : List Class) → Is classes → (cs m : List ℕ) → IsMerged (table classes) cs m → m ≡ merged classes cs
merges classes is cs m none = refl
merges classes is cs m (more class rest above list up later) =
    let first : class ∷ above ≡ carried classes class =
    ap (λ (l : List ℕ). class ∷ l) (merges classes is (reverse (parents_of (table classes) class)) above up) ∙ sym (is class) in
    let behind : list ≡ merged classes rest = merges classes is rest list later in
    ap (λ l. l +> list) first ∙ ap (λ l. carried classes class +> l) behind

either : (a b : Bool) → ((not b && a) || b) ≡ (a || b)
either true true = refl
either true false = refl
either false true = refl
either false false = refl

is_in-joined : (a b : List ℕ) (x : ℕ) → is_in (a +> b) x ≡ (is_in a x || is_in b x)
is_in-joined a b x =
    list_any-append (eqb x) (filter (λ y. not (is_in b y)) a) b
    ∙ ap (λ front. front || is_in b x) (any-filter_same (eqb x) (λ y. not (is_in b y)) (not (is_in b x)) (λ k e. ap (λ y. not (is_in b y)) (sym (eqb-true x k e))) a)
    ∙ either (is_in a x) (is_in b x)

-- what one of a list of classes carries is in what is merged
in_merged : (classes : List Class) (cs : List ℕ) (class x : ℕ) → is_in cs class ≡ true → is_in (carried classes class) x ≡ true → is_in (merged classes cs) x ≡ true
in_merged classes [] class x has up = absurd (let h : false ≡ true = has in cc)
in_merged classes (c ∷ cs) class x has up =
    is_in-joined (carried classes c) (merged classes cs) x ∙ by_test (eqb class c) refl has (in_merged classes cs class x) where
      by_test : (b : Bool) → eqb class c ≡ b → (b || is_in cs class) ≡ true
          → (is_in cs class ≡ true → is_in (carried classes class) x ≡ true → is_in (merged classes cs) x ≡ true) → (is_in (carried classes c) x || is_in (merged classes cs) x) ≡ true
      by_test true same h further = or_left (is_in (carried classes c) x) (is_in (merged classes cs) x) (subst (λ y. is_in (carried classes y) x ≡ true) (eqb-true class c same) up)
      by_test false other h further = or_right (is_in (carried classes c) x) (is_in (merged classes cs) x) (further h up)

has_parent : (classes : List Class) (class x : ℕ) → Contains (parents_of (table classes) class) x → is_in (reverse (parents_of (table classes) class)) x ≡ true
has_parent classes class x has =
    let parents = parents_of (table classes) class in
    sym (list_any-IsPermutation (eqb x) parents (reverse parents) (IsPermutation-reverse parents)) ∙ list_any-from_Contains nat_eq_equiv x parents has

-- each ancestor of a class is in what is merged from its parents
ancestors : (classes : List Class) → Is classes → (x class : ℕ) → IsAncestor (table classes) x class → is_in (merged classes (reverse (parents_of (table classes) class))) x ≡ true
ancestors classes is x class (parent _ _ has) =
    in_merged classes (reverse (parents_of (table classes) class)) x x (has_parent classes class x has)
    (ap (λ l. is_in l x) (is x) ∙ or_left (eqb x x) (is_in (merged classes (reverse (parents_of (table classes) x))) x) (eq-eqb x x refl))
ancestors classes is x class (beyond _ middle _ has rest) =
    in_merged classes (reverse (parents_of (table classes) class)) middle x (has_parent classes class middle has)
    (ap (λ l. is_in l x) (is middle) ∙ or_right (eqb x middle) (is_in (merged classes (reverse (parents_of (table classes) middle))) x) (ancestors classes is x middle rest))

acyclic : (classes : List Class) → Is classes → Lacks classes → IsAcyclic (table classes)
acyclic classes is lacks class h = (let one = ancestors classes is class class h in let other = lacks class in cc)

-- so each carries its linearisation
carry : ExistsLaw → (classes : List Class) → Is classes → Lacks classes → (class : ℕ) → IsLinearisation (table classes) class (carried classes class)
carry exists classes is lacks class =
    let parents = table classes in
    let made = exists parents (acyclic classes is lacks) class in
    let list = made.1 in
    let same : made.0 ≡ carried classes class =
    list.is ∙ ap (λ (l : List ℕ). class ∷ l) (merges classes is (reverse (parents_of parents class)) list.above list.merged) ∙ sym (is class) in
    subst (λ (l : List ℕ). IsLinearisation parents class l) same made.1

first : (classes : List Class) (n : ℕ) → n < length classes → Class
first [] n within = absurd (omega arith)
first (c ∷ classes) n within = c

carried_in : (classes : List Class) (class : ℕ) (d : Class) → class < length classes → carried classes class ≡ (get_or classes class d).linear
carried_in classes class d within =
    ap (λ (found : Option Class). unwrap_or (option_map (λ c. c.linear) found) (class ∷ [])) (slice_get-get_or classes class d within)

carried_out : (classes : List Class) (class : ℕ) → length classes ≤ class → carried classes class ≡ class ∷ []
carried_out classes class past =
    ap (λ (found : Option Class). unwrap_or (option_map (λ c. c.linear) found) (class ∷ [])) (slice_get_past classes class past)

parents_in : (classes : List Class) (class : ℕ) (d : Class) → class < length classes → parents_of (table classes) class ≡ (get_or classes class d).parents
parents_in classes class d within = get_or-map (λ (c : Class). c.parents) classes class d [] within

parents_out : (classes : List Class) (class : ℕ) → length classes ≤ class → parents_of (table classes) class ≡ []
parents_out classes class past = get_or_past (table classes) class [] (omega (arith, past, length-map classes (λ (c : Class). c.parents)))

lists_at : (classes : List Class) (class : ℕ) → class < length classes → get_or (map (λ c. c.linear) classes) class [] ≡ carried classes class
lists_at classes class within =
    let d = first classes class within in
    get_or-map (λ (c : Class). c.linear) classes class d [] within ∙ sym (carried_in classes class d within)

abbrev above_of : List Class → List ℕ → List ℕ
above_of classes parents = merged classes (reverse parents)

is_of : (classes : List Class) → AreCarried classes → Is classes
is_of classes all class =
    elim (cases_lt class (length classes)) [
      | inl within ↦
          let d = first classes class within in
          carried_in classes class d within ∙ (all class d within).is ∙ ap (λ ps. class ∷ above_of classes ps) (sym (parents_in classes class d within))
      | inr past ↦ carried_out classes class past ∙ ap (λ ps. class ∷ above_of classes ps) (sym (parents_out classes class past))
    ]

lacks_of : (classes : List Class) → AreCarried classes → Lacks classes
lacks_of classes all class =
    elim (cases_lt class (length classes)) [
      | inl within ↦
          let d = first classes class within in
          ap (λ ps. is_in (above_of classes ps) class) (parents_in classes class d within) ∙ (all class d within).lacks
      | inr past ↦ ap (λ ps. is_in (above_of classes ps) class) (parents_out classes class past)
    ]

pub linear_from_carried : ExistsLaw → (p : Program) → AreCarried p.classes → HasLinearisations p
linear_from_carried exists p all = record {
  count = length-map p.classes (λ (c : Class). c.linear) ∙ sym (length-map p.classes (λ (c : Class). c.parents));
  each = λ class within.
      (let here : class < length p.classes = omega (arith, within, length-map p.classes (λ (c : Class). c.parents)) in
      subst (λ (l : List ℕ). IsLinearisation (table p.classes) class l) (sym (lists_at p.classes class here))
      (carry exists p.classes (is_of p.classes all) (lacks_of p.classes all) class));
}

abbrev Linear : List Class → Type 0
Linear classes = (class : ℕ) → IsLinearisation (table classes) class (carried classes class)

linear_of : (p : Program) → HasLinearisations p → Linear p.classes
linear_of p has class =
    elim (cases_lt class (length p.classes)) [
      | inl within ↦
          subst (λ (l : List ℕ). IsLinearisation (table p.classes) class l) (lists_at p.classes class within)
          (has.each class (omega (arith, within, length-map p.classes (λ (c : Class). c.parents))))
      | inr past ↦ record {
        above = [];
        merged = subst (λ (ps : List ℕ). IsMerged (table p.classes) (reverse ps) []) (sym (parents_out p.classes class past)) none;
        is = carried_out p.classes class past;
      }
    ]

merged_from_linear : OnlyLaw → (classes : List Class) → Linear classes → (cs m : List ℕ) → IsMerged (table classes) cs m → m ≡ merged classes cs
merged_from_linear only classes linear cs m none = refl
merged_from_linear only classes linear cs m (more class rest above list up later) =
    let own : IsLinearisation (table classes) class (class ∷ above) = record { above = above; merged = up; is = refl } in
    let first : class ∷ above ≡ carried classes class = only (table classes) class (class ∷ above) (carried classes class) own (linear class) in
    let behind : list ≡ merged classes rest = merged_from_linear only classes linear rest list later in
    ap (λ l. l +> list) first ∙ ap (λ l. carried classes class +> l) behind

lacking : (number : ℕ) (list : List ℕ) → AllPairs (λ one other. one ≢ other) (number ∷ list) → is_in list number ≡ false
lacking number list apart =
    elim (cases_Bool (is_in list number)) [
      | inl is ↦
          let found = Contains-from_any eqb-true number list is in
          absurd (apart 0 (suc found.0) number (omega arith) (omega (arith, found.1)) (sym found.2))
      | inr is ↦ is
    ]

pub carried_from_linear : OnlyLaw → DistinctLaw → (p : Program) → HasLinearisations p → AreCarried p.classes
carried_from_linear only distinct p has number d within =
    let classes = p.classes in
    let linear = linear_of p has in
    let list = linear number in
    let named = parents_in classes number d within in
    let whole : carried classes number ≡ number ∷ above_of classes (parents_of (table classes) number) =
    list.is ∙ ap (λ (l : List ℕ). number ∷ l) (merged_from_linear only classes linear (reverse (parents_of (table classes) number)) list.above list.merged) in
    let same : carried classes number ≡ number ∷ above_of classes (get_or classes number d).parents =
    whole ∙ ap (λ ps. number ∷ above_of classes ps) named in
    record {
      is = sym (carried_in classes number d within) ∙ same;
      lacks = lacking number (above_of classes (get_or classes number d).parents)
          (subst (λ (l : List ℕ). AllPairs (λ one other. one ≢ other) l) same (distinct (table classes) number (carried classes number) list));
    }
