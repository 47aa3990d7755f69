-- The tables of a linked set have what its classes select.
use Rattle.std.proofs.Common.{◌≡◌, ◌≢◌, ◌≤◌, cond, ◌∙◌, inl, inr, ℕ, zero, suc, ◌+◌, ◌<◌, Bool, true, false, List, [], ◌∷◌, length, drop, map, get_or, refl, sym, ap, subst, arith, eqb, Option, Some, None}
use Rattle.std.specs.Prelude.{slice_get, option_map, ◌||◌, ◌&&◌}
use Rattle.std.specs.List.{filter}
use Rattle.std.specs.Option.{unwrap_or}
use Rattle.std.proofs.lemmas.Bool.{eqb-true, eq-eqb, or_cases, or_right}
use Rattle.std.proofs.lemmas.Bool.Decides.{eqb_tells}
use Rattle.std.proofs.lemmas.List.Folds.{list_any-append}
use Rattle.std.proofs.lemmas.Map.Views.{any-filter_same}
use Rattle.std.proofs.lemmas.List.{get_or-append-add, get_or_append_left, length-append}
use Rattle.std.proofs.lemmas.Option.{slice_get_cases}
use Rattle.ty_linear.specs.Linear.{is_in}
use Rattle.cf_link.specs.declared.linked_class.LinkedClass.{LinkedClass}
use Rattle.cf_link.specs.declared.member.LinkedMethod.{LinkedMethod}
use Rattle.cf_link.specs.declared.reference.LinkedRef.{LinkedRef}
use Rattle.cf_link.specs.declared.table.Table.{Table}
use Rattle.cf_link.specs.Classes.{chain_of, line_of, methods_of, is_interface}
use Rattle.cf_link.specs.Selection.{chosen, chosen_all, chosen_at}
use Rattle.cf_link.specs.Layout.{method_slots, table, face, interfaces_of, numbers}
use Rattle.cf_link.specs.Linked.{IsLinked, chain_above}
use Rattle.cf_link.specs.TableSlots.{at_slot, base_of, table_slots, faces_of, face_of}
use Rattle.cf_link.proofs.Chains.{AllChain, ChainCases, none, more, chain_case, at_slot_is, at_map, length_all, method_slots_more}

-- how many slots a chain has doesn't depend on who selects
method_slots_length : (classes : List LinkedClass) (one other : ℕ) (chain : List ℕ) → length (method_slots classes one chain) ≡ length (method_slots classes other chain)
method_slots_length classes one other [] = refl
method_slots_length classes one other (d ∷ up) =
    ap length (method_slots_more classes one d up)
    ∙ length-append (method_slots classes one up) (chosen_all classes one d)
    ∙ ap (λ n. n + length (chosen_all classes one d)) (method_slots_length classes one other up)
    ∙ ap (λ n. length (method_slots classes other up) + n) (length_all (chosen classes one) (methods_of classes d) ∙ sym (length_all (chosen classes other) (methods_of classes d)))
    ∙ sym (length-append (method_slots classes other up) (chosen_all classes other d))
    ∙ sym (ap length (method_slots_more classes other d up))

-- the slots before those of the methods that a class declares
abbrev base : List LinkedClass → ℕ → ℕ
base classes of = length (method_slots classes of (drop 1 (chain_of classes of)))

-- at the class that begins the chain
at_first : (classes : List LinkedClass) (class of number : ℕ) (up : List ℕ) → chain_of classes of ≡ of ∷ up → number < length (methods_of classes of)
    → get_or (method_slots classes class (of ∷ up)) (base classes of + number) None ≡ chosen_at classes class of number
at_first classes class of number up is within =
    let begins : base classes of ≡ length (method_slots classes class up) = ap (λ chain. length (method_slots classes of (drop 1 chain))) is ∙ method_slots_length classes of class up in
    ap (λ n. get_or (method_slots classes class (of ∷ up)) (n + number) None) begins
    ∙ ap (λ slots. get_or slots (length (method_slots classes class up) + number) None) (method_slots_more classes class of up)
    ∙ get_or-append-add (method_slots classes class up) (chosen_all classes class of) number None
    ∙ at_map (chosen classes class) (methods_of classes of) number

-- where the slot of a method is
abbrev HasSlot : List LinkedClass → ℕ → ℕ → ℕ → List ℕ → Type 0
HasSlot classes class of number chain =
    (base classes of + number < length (method_slots classes class chain))
    × (get_or (method_slots classes class chain) (base classes of + number) None ≡ chosen_at classes class of number)

has_slot_first : (classes : List LinkedClass) (class of number : ℕ) (up : List ℕ) → chain_of classes of ≡ of ∷ up → number < length (methods_of classes of)
    → HasSlot classes class of number (of ∷ up)
has_slot_first classes class of number up is within =
    let begins : base classes of ≡ length (method_slots classes class up) = ap (λ chain. length (method_slots classes of (drop 1 chain))) is ∙ method_slots_length classes of class up in
    let all : length (method_slots classes class (of ∷ up)) ≡ length (method_slots classes class up) + length (methods_of classes of) =
    ap length (method_slots_more classes class of up) ∙ length-append (method_slots classes class up) (chosen_all classes class of)
    ∙ ap (λ n. length (method_slots classes class up) + n) (length_all (chosen classes class) (methods_of classes of)) in
    (omega arith, at_first classes class of number up is within)

has_slot_later : (classes : List LinkedClass) (class of number d : ℕ) (up : List ℕ) → HasSlot classes class of number up → HasSlot classes class of number (d ∷ up)
has_slot_later classes class of number d up has_slot =
    let all : length (method_slots classes class (d ∷ up)) ≡ length (method_slots classes class up) + length (chosen_all classes class d) =
    ap length (method_slots_more classes class d up) ∙ length-append (method_slots classes class up) (chosen_all classes class d) in
    let before : base classes of + number < length (method_slots classes class up) = has_slot.0 in (
      omega arith,
      ap (λ slots. get_or slots (base classes of + number) None) (method_slots_more classes class d up)
          ∙ get_or_append_left (method_slots classes class up) (chosen_all classes class d) None (base classes of + number) before ∙ has_slot.1,
    )

-- what has a slot in the chains of superclasses has one in the chain above
has_slot_above : (classes : List LinkedClass) → (class of number : ℕ) (parent : Option ℕ) → is_in (chain_above classes parent) of ≡ true
    → ((start : ℕ) → chain_of classes start ≡ chain_above classes parent → is_in (chain_above classes parent) of ≡ true → HasSlot classes class of number (chain_above classes parent))
    → HasSlot classes class of number (chain_above classes parent)
has_slot_above classes class of number None there further = absurd (cc there)
has_slot_above classes class of number (Some parent) there further = further parent refl there

has_slot_from : (classes : List LinkedClass) → (class of number : ℕ) → number < length (methods_of classes of)
    → (start : ℕ) (chain : List ℕ) → chain_of classes start ≡ chain → ChainCases classes start chain → is_in chain of ≡ true
    → ((first : ℕ) (up : List ℕ) → chain ≡ first ∷ up → (next : ℕ) → chain_of classes next ≡ up → is_in up of ≡ true → HasSlot classes class of number up)
    → HasSlot classes class of number chain
has_slot_from classes class of number within start chain is none there further = absurd (cc there)
has_slot_from classes class of number within start chain is (more c e) there further =
    elim (or_cases (eqb of start) (is_in (chain_above classes c.parent) of) there) as (λ _. HasSlot classes class of number (start ∷ chain_above classes c.parent)) [
      | inl here ↦ let same : of ≡ start = eqb-true of start here in
          subst (λ d. HasSlot classes class of number (d ∷ chain_above classes c.parent)) same
          (has_slot_first classes class of number (chain_above classes c.parent) (ap (chain_of classes) same ∙ is ∙ ap (λ d. d ∷ chain_above classes c.parent) (sym same)) within)
      | inr higher ↦ has_slot_later classes class of number start (chain_above classes c.parent)
          (has_slot_above classes class of number c.parent higher (further start (chain_above classes c.parent) refl))
    ]

-- each method of a class of a chain has its slot
has_slot : (classes : List LinkedClass) → AllChain classes → (class of number : ℕ) → number < length (methods_of classes of)
    → (chain : List ℕ) (start : ℕ) → chain_of classes start ≡ chain → is_in chain of ≡ true → HasSlot classes class of number chain
has_slot classes all class of number within [] start is there = absurd (cc there)
has_slot classes all class of number within (first ∷ up) start is there =
    has_slot_from classes class of number within start (first ∷ up) is (subst (ChainCases classes start) is (chain_case classes all start)) there
    (λ one more same next to among. let behind : up ≡ more = cc in
    subst (λ xs. HasSlot classes class of number xs) behind (has_slot classes all class of number within up next (to ∙ sym behind) (subst (λ xs. is_in xs of ≡ true) (sym behind) among)))

-- a class whose chain has a class is there
chain_within : (classes : List LinkedClass) (class of : ℕ) → is_in (chain_of classes class) of ≡ true → class < length classes
chain_within classes class of there =
    elim ((slice_get_cases classes class).1) [
      | inl found ↦ found.1
      | inr past ↦ absurd (let none : is_in [] of ≡ true = subst (λ o. is_in (unwrap_or (option_map (λ c. c.chain) o) []) of ≡ true) past.1 there in cc)
    ]

line_within : (classes : List LinkedClass) (class of : ℕ) → is_in (line_of classes class) of ≡ true → class < length classes
line_within classes class of there =
    elim ((slice_get_cases classes class).1) [
      | inl found ↦ found.1
      | inr past ↦ absurd (let none : is_in [] of ≡ true = subst (λ o. is_in (unwrap_or (option_map (λ c. c.line) o) []) of ≡ true) past.1 there in cc)
    ]

-- a class that has methods is there
methods_within : (classes : List LinkedClass) (of number : ℕ) → number < length (methods_of classes of) → of < length classes
methods_within classes of number within =
    elim ((slice_get_cases classes of).1) [
      | inl found ↦ found.1
      | inr past ↦ absurd (let none : number < length {A = LinkedMethod} [] = subst (λ o. number < length (unwrap_or (option_map (λ c. c.methods) o) [])) past.1 within in omega arith)
    ]

table_at : (classes : List LinkedClass) (tables : List Table) (refs : List (List LinkedRef)) (texts : List (List ℕ)) (main : ℕ × ℕ)
    → IsLinked classes tables refs texts main → (class : ℕ) → class < length classes → slice_get tables class ≡ Some (table classes class)
table_at classes tables refs texts main linked class within =
    elim ((slice_get_cases tables class).1) [
      | inl found ↦ found.2 ∙ ap Some (linked.each_table class found.0 found.2)
      | inr past ↦ absurd (let count : length tables ≡ length classes = linked.tables_count in let beyond : length tables ≤ class = past.0 in omega arith)
    ]

-- a method of a class of the chain
pub in_slots : (classes : List LinkedClass) (tables : List Table) (refs : List (List LinkedRef)) (texts : List (List ℕ)) (main : ℕ × ℕ)
    → IsLinked classes tables refs texts main → (class of number : ℕ) → is_in (chain_of classes class) of ≡ true → number < length (methods_of classes of)
    → at_slot (table_slots tables class) (base_of tables of + number) ≡ chosen_at classes class of number
in_slots classes tables refs texts main linked class of number there within =
    let here : slice_get tables class ≡ Some (table classes class) = table_at classes tables refs texts main linked class (chain_within classes class of there) in
    let there_too : slice_get tables of ≡ Some (table classes of) = table_at classes tables refs texts main linked of (methods_within classes of number within) in
    let slots : table_slots tables class ≡ method_slots classes class (chain_of classes class) = ap (λ o. unwrap_or (option_map (λ t. t.slots) o) []) here in
    let first : base_of tables of ≡ base classes of = ap (λ o. unwrap_or (option_map (λ t. t.base) o) 0) there_too in
    at_slot_is (table_slots tables class) (base_of tables of + number)
    ∙ ap (λ xs. get_or xs (base_of tables of + number) None) slots
    ∙ ap (λ n. get_or (method_slots classes class (chain_of classes class)) (n + number) None) first
    ∙ (has_slot classes (λ d c e. (linked.each d c e).chain) class of number within (chain_of classes class) class refl there).1

differ : (x y : ℕ) → eqb y x ≡ false → eqb x y ≡ false
differ x y is =
    elim (eqb_tells x y) [
      | inl same ↦ absurd (let test : eqb y x ≡ true = eq-eqb y x (sym same.1) in cc)
      | inr apart ↦ apart.0
    ]

-- the interface of a face
face_first : (classes : List LinkedClass) (class of x : ℕ) (xs : List ℕ) (b : Bool) → eqb of x ≡ b → (b || is_in xs of) ≡ true
    → (is_in xs of ≡ true → face_of (map (face classes class) xs) of ≡ chosen_all classes class of)
    → face_of (map (face classes class) (x ∷ xs)) of ≡ chosen_all classes class of
face_first classes class of x xs true is there further =
    let same : of ≡ x = eqb-true of x is in
    let test : eqb x of ≡ true = eq-eqb x of (sym same) in
    ap (λ b. cond b (chosen_all classes class x) (face_of (map (face classes class) xs) of)) test ∙ ap (chosen_all classes class) (sym same)
face_first classes class of x xs false is there further =
    let test : eqb x of ≡ false = differ x of is in
    ap (λ b. cond b (chosen_all classes class x) (face_of (map (face classes class) xs) of)) test ∙ further there

face_found : (classes : List LinkedClass) (class of : ℕ) (xs : List ℕ) → is_in xs of ≡ true → face_of (map (face classes class) xs) of ≡ chosen_all classes class of
face_found classes class of [] there = absurd (cc there)
face_found classes class of (x ∷ xs) there = face_first classes class of x xs (eqb of x) refl there (face_found classes class of xs)

in_push : (xs : List ℕ) (n x : ℕ) (b : Bool) → eqb x n ≡ b → (x ≢ n → is_in xs x ≡ true) → (is_in xs x || (b || false)) ≡ true
in_push xs n x true is before = or_right (is_in xs x) true refl
in_push xs n x false is before =
    ap (λ b. b || false) (before (λ same. let test : eqb x n ≡ true = eq-eqb x n same in absurd (cc test)))

in_numbers : (n x : ℕ) → x < n → is_in (numbers n) x ≡ true
in_numbers zero x within = absurd (omega arith)
in_numbers (suc n) x within =
    list_any-append (eqb x) (numbers n) (n ∷ []) ∙ in_push (numbers n) n x (eqb x n) refl (λ ne. in_numbers n x (omega arith))

in_filter : (p : ℕ → Bool) (xs : List ℕ) (x : ℕ) → is_in xs x ≡ true → p x ≡ true → is_in (filter p xs) x ≡ true
in_filter p xs x there passes =
    any-filter_same (eqb x) p (p x) (λ k e. ap p (sym (eqb-true x k e))) xs ∙ ap (λ b. b && is_in xs x) passes ∙ there

-- a method of an interface to which the class conforms
pub in_face : (classes : List LinkedClass) (tables : List Table) (refs : List (List LinkedRef)) (texts : List (List ℕ)) (main : ℕ × ℕ)
    → IsLinked classes tables refs texts main → (class of number : ℕ) → is_interface classes of ≡ true → is_in (line_of classes class) of ≡ true → number < length (methods_of classes of)
    → at_slot (face_of (faces_of tables class) of) number ≡ chosen_at classes class of number
in_face classes tables refs texts main linked class of number interface there within =
    let here : slice_get tables class ≡ Some (table classes class) = table_at classes tables refs texts main linked class (line_within classes class of there) in
    let faces : faces_of tables class ≡ map (face classes class) (interfaces_of classes class) = ap (λ o. unwrap_or (option_map (λ t. t.faces) o) []) here in
    let among : is_in (interfaces_of classes class) of ≡ true =
    in_filter (λ i. is_interface classes i && is_in (line_of classes class) i) (numbers (length classes)) of
    (in_numbers (length classes) of (methods_within classes of number within))
    (ap (λ b. b && is_in (line_of classes class) of) interface ∙ there) in
    at_slot_is (face_of (faces_of tables class) of) number
    ∙ ap (λ xs. get_or (face_of xs of) number None) faces
    ∙ ap (λ xs. get_or xs number None) (face_found classes class of (interfaces_of classes class) among)
    ∙ at_map (chosen classes class) (methods_of classes of) number
