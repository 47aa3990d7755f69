-- A text describes one type, and so one list of kinds.
use Rattle.std.proofs.Common.{◌≡◌, ◌∙◌, ℕ, Bool, true, false, List, [], ◌∷◌, ◌++◌, Option, Some, refl, sym, ap, arith, append_assoc, append-nil, drop}
use Rattle.std.specs.Prelude.{◌≢◌, option_map, ◌==◌}
use Rattle.std.specs.List.{All}
use Rattle.std.proofs.lemmas.Option.{none-some, some_pair_parts}
use Rattle.std.proofs.lemmas.Bool.Decides.{nat_tests}
use Rattle.std.proofs.lemmas.List.Elements.{All-head, All-tail}
use Rattle.cf_link.specs.declared.value_kind.ValueKind.{ValueKind}
use Rattle.cf_link.specs.declared.value_kind.ValueKind.TheVariants.{Reference}
use Rattle.cf_link.specs.Descriptors.{IsPlain, IsClassName, part, join, IsLetter, byte, char, double, float, int, long, short, boolean, IsType, letter, class, array, AreTypes, none, more, IsResult, void, type, IsMethodType, method}
use Rattle.cf_link.specs.Parsing as parse

letter_read : (b : ℕ) (kind : ValueKind) (rest : List ℕ) → IsLetter b kind → parse.type_in_front (b ∷ rest) ≡ Some (kind, rest)
letter_read b kind rest byte = refl
letter_read b kind rest char = refl
letter_read b kind rest double = refl
letter_read b kind rest float = refl
letter_read b kind rest int = refl
letter_read b kind rest long = refl
letter_read b kind rest short = refl
letter_read b kind rest boolean = refl

plain_read : (empty : Bool) (b : ℕ) (rest : List ℕ) → IsPlain b → parse.name_end empty (b ∷ rest) ≡ parse.name_end false rest
plain_read empty b rest is =
    let dot : (b == 46) ≡ false = (let ne : b ≢ 46 = is.0 in grind (arith, nat_tests)) in
    let semicolon : (b == 59) ≡ false = (let ne : b ≢ 59 = is.1 in grind (arith, nat_tests)) in
    let bracket : (b == 91) ≡ false = (let ne : b ≢ 91 = is.2 in grind (arith, nat_tests)) in
    let slash : (b == 47) ≡ false = (let ne : b ≢ 47 = is.3 in grind (arith, nat_tests)) in
    simp (semicolon, slash, dot, bracket)

parts_read : (empty : Bool) (first : ℕ) (others rest : List ℕ) → All IsPlain (first ∷ others) → parse.name_end empty ((first ∷ others) ++ rest) ≡ parse.name_end false rest
parts_read empty first [] rest all = plain_read empty first rest (All-head IsPlain first [] all)
parts_read empty first (next ∷ others) rest all = plain_read empty first ((next ∷ others) ++ rest) (All-head IsPlain first (next ∷ others) all) ∙ parts_read false next others rest (All-tail IsPlain first (next ∷ others) all)

name_read : (name rest : List ℕ) → IsClassName name → parse.name_end true (name ++ 59 ∷ rest) ≡ Some rest
name_read name rest (part first others all) = parts_read true first others (59 ∷ rest) all
name_read name rest (join first others next all is) =
    ap (parse.name_end true) (append_assoc (first ∷ others) (47 ∷ next) (59 ∷ rest))
    ∙ parts_read true first others (47 ∷ (next ++ 59 ∷ rest)) all ∙ name_read next rest is

-- a type is read up to its end
type_read : (t : List ℕ) (kind : ValueKind) (rest : List ℕ) → IsType t kind → parse.type_in_front (t ++ rest) ≡ Some (kind, rest)
type_read t kind rest (letter b k is) = letter_read b k rest is
type_read t kind rest (class name is) =
    ap (λ xs. option_map (λ after. (Reference, after)) (parse.name_end true xs)) (append_assoc name (59 ∷ []) rest)
    ∙ ap (option_map (λ after. (Reference, after))) (name_read name rest is)
type_read t kind rest (array component k is) = ap (option_map parse.array_of) (type_read component k rest is)

-- two types at the front of a text are one
types_one : (t u : List ℕ) (k l : ValueKind) (r s : List ℕ) → IsType t k → IsType u l → t ++ r ≡ u ++ s → (k ≡ l) × (r ≡ s)
types_one t u k l r s one other same =
    let both : Some (k, r) ≡ Some (l, s) = sym (type_read t k r one) ∙ ap parse.type_in_front same ∙ type_read u l s other in
    some_pair_parts k l r s both

pub type_kind : (t : List ℕ) (k l : ValueKind) → IsType t k → IsType t l → k ≡ l
type_kind t k l one other = (types_one t t k l [] [] one other refl).0

-- no type begins with `)`
no_type : (t : List ℕ) (k : ValueKind) (r s : List ℕ) → IsType t k → ¬ (41 ∷ s ≡ t ++ r)
no_type t k r s is same = absurd (none-some (k, r) (ap parse.type_in_front same ∙ type_read t k r is))

parameters_one : (ts us : List ℕ) (ks ls : List ValueKind) (r s : List ℕ) → AreTypes ts ks → AreTypes us ls → ts ++ 41 ∷ r ≡ us ++ 41 ∷ s → (ks ≡ ls) × (r ≡ s)
parameters_one ts us ks ls r s none none same = (refl, cc)
parameters_one ts us ks ls r s none (more u l us' ls' is others) same = absurd (no_type u l (us' ++ 41 ∷ s) r is (same ∙ append_assoc u us' (41 ∷ s)))
parameters_one ts us ks ls r s (more t k ts' ks' is others) none same = absurd (no_type t k (ts' ++ 41 ∷ r) s is (sym same ∙ append_assoc t ts' (41 ∷ r)))
parameters_one ts us ks ls r s (more t k ts' ks' is others) (more u l us' ls' is' others') same =
    let front = types_one t u k l (ts' ++ 41 ∷ r) (us' ++ 41 ∷ s) is is' (sym (append_assoc t ts' (41 ∷ r)) ∙ same ∙ append_assoc u us' (41 ∷ s)) in
    let back = parameters_one ts' us' ks' ls' r s others others' front.1 in
    (ap (λ x. x ∷ ks') front.0 ∙ ap (λ xs. l ∷ xs) back.0, back.1)

-- no type is `V`
no_void : (t : List ℕ) (k : ValueKind) → IsType t k → ¬ (86 ∷ [] ≡ t)
no_void t k is same = absurd (none-some (k, []) (ap parse.type_in_front (same ∙ sym (append-nil t)) ∙ type_read t k [] is))

result_one : (t u : List ℕ) (k l : Option ValueKind) → IsResult t k → IsResult u l → t ≡ u → k ≡ l
result_one t u k l void void same = refl
result_one t u k l void (type u' l' is) same = absurd (no_void u' l' is same)
result_one t u k l (type t' k' is) void same = absurd (no_void t' k' is (sym same))
result_one t u k l (type t' k' is) (type u' l' is') same =
    ap Some (types_one t' u' k' l' [] [] is is' (ap (λ xs. xs ++ []) same)).0

-- the parts of a method's descriptor
record Parts (text : List ℕ) (kinds : List ValueKind) (result : Option ValueKind) : Type 0 where
  types : List ℕ
  behind : List ℕ
  is : text ≡ 40 ∷ (types ++ 41 ∷ behind)
  are : AreTypes types kinds
  gives : IsResult behind result

parts_of : (text : List ℕ) (kinds : List ValueKind) (result : Option ValueKind) → IsMethodType text kinds result → Parts text kinds result
parts_of text kinds result (method types ks behind k are gives) = record { types = types; behind = behind; is = refl; are = are; gives = gives }

pub method_kinds : (text : List ℕ) (ks ls : List ValueKind) (k l : Option ValueKind) → IsMethodType text ks k → IsMethodType text ls l → (ks ≡ ls) × (k ≡ l)
method_kinds text ks ls k l one other =
    let p = parts_of text ks k one in
    let q = parts_of text ls l other in
    let whole : 40 ∷ (p.types ++ 41 ∷ p.behind) ≡ 40 ∷ (q.types ++ 41 ∷ q.behind) = sym p.is ∙ q.is in
    let inner : p.types ++ 41 ∷ p.behind ≡ q.types ++ 41 ∷ q.behind = ap (drop 1) whole in
    let parameters = parameters_one p.types q.types ks ls p.behind q.behind p.are q.are inner in
    (parameters.0, result_one p.behind q.behind k l p.gives q.gives parameters.1)
