-- The types that are read are those of the grammar.
use Rattle.std.proofs.Common.{◌≡◌, ◌≢◌, ◌∙◌, ℕ, Bool, true, false, ◌||◌, cond, List, [], ◌∷◌, ◌++◌, Option, Some, None, refl, sym, ap, subst, arith, append_assoc, append-nil, eqb}
use Rattle.std.specs.Prelude.{option_map, ◌==◌}
use Rattle.std.specs.List.{All}
use Rattle.std.proofs.lemmas.Bool.{eqb-true, eq-eqb}
use Rattle.std.proofs.lemmas.Bool.Decides.{nat_tests}
use Rattle.std.proofs.lemmas.List.Elements.{All-head, All-tail, All-cons, All-nil}
use Rattle.cf_link.specs.declared.value_kind.ValueKind.{ValueKind}
use Rattle.cf_link.specs.declared.value_kind.ValueKind.TheVariants.{Int, Long, Reference}
use Rattle.cf_link.specs.Descriptors.{IsPlain, IsClassName, part, join, IsLetter, byte, char, double, float, int, long, short, boolean, IsType, letter, class, array}
use Rattle.cf_link.specs.Parsing as parse

-- a letter is read
letter_read : (b : ℕ) (kind : ValueKind) (rest : List ℕ) → IsLetter b kind → parse.type_in_front (b ∷ rest) ≡ Some (kind, rest)
letter_read b kind rest byte = refl
letter_read b kind rest char = refl
letter_read b kind rest double = refl
letter_read b kind rest float = refl
letter_read b kind rest int = refl
letter_read b kind rest long = refl
letter_read b kind rest short = refl
letter_read b kind rest boolean = refl

-- a byte of a name is passed over
plain_read : (empty : Bool) (b : ℕ) (rest : List ℕ) → IsPlain b → parse.name_end empty (b ∷ rest) ≡ parse.name_end false rest
plain_read empty b rest is =
    let dot : (b == 46) ≡ false = (let ne : b ≢ 46 = is.0 in grind (arith, nat_tests)) in
    let semicolon : (b == 59) ≡ false = (let ne : b ≢ 59 = is.1 in grind (arith, nat_tests)) in
    let bracket : (b == 91) ≡ false = (let ne : b ≢ 91 = is.2 in grind (arith, nat_tests)) in
    let slash : (b == 47) ≡ false = (let ne : b ≢ 47 = is.3 in grind (arith, nat_tests)) in
    simp (semicolon, slash, dot, bracket)

parts_read : (empty : Bool) (first : ℕ) (others rest : List ℕ) → All IsPlain (first ∷ others) → parse.name_end empty ((first ∷ others) ++ rest) ≡ parse.name_end false rest
parts_read empty first [] rest all = plain_read empty first rest (All-head IsPlain first [] all)
parts_read empty first (next ∷ others) rest all = plain_read empty first ((next ∷ others) ++ rest) (All-head IsPlain first (next ∷ others) all) ∙ parts_read false next others rest (All-tail IsPlain first (next ∷ others) all)

-- a class name is read up to its `;`
name_read : (name rest : List ℕ) → IsClassName name → parse.name_end true (name ++ 59 ∷ rest) ≡ Some rest
name_read name rest (part first more all) = parts_read true first more (59 ∷ rest) all
name_read name rest (join first more next all is) =
    ap (parse.name_end true) (append_assoc (first ∷ more) (47 ∷ next) (59 ∷ rest))
    ∙ parts_read true first more (47 ∷ (next ++ 59 ∷ rest)) all ∙ name_read next rest is

-- a type is read
pub type_read : (type : List ℕ) (kind : ValueKind) (rest : List ℕ) → IsType type kind → parse.type_in_front (type ++ rest) ≡ Some (kind, rest)
type_read type kind rest (letter b k is) = letter_read b k rest is
type_read type kind rest (class name is) =
    ap (λ xs. option_map (λ after. (Reference, after)) (parse.name_end true xs)) (append_assoc name (59 ∷ []) rest)
    ∙ ap (option_map (λ after. (Reference, after))) (name_read name rest is)
type_read type kind rest (array component k is) = ap (option_map parse.array_of) (type_read component k rest is)

-- the rest of a class name, where a byte of its part was read
data IsNameRest : List ℕ → Type 0 where
  end : (rest : List ℕ) → All IsPlain rest → IsNameRest rest
  more : (rest next : List ℕ) → All IsPlain rest → IsClassName next → IsNameRest (rest ++ 47 ∷ next)

abbrev NameFrom : Bool → List ℕ → Type 0
NameFrom true name = IsClassName name
NameFrom false name = IsNameRest name

-- what stands before a `;`
abbrev Named : Bool → List ℕ → List ℕ → Type 0
Named empty bytes after = (name : List ℕ) × (bytes ≡ name ++ 59 ∷ after) × NameFrom empty name

begun : (b : ℕ) (name : List ℕ) → IsPlain b → IsNameRest name → (empty : Bool) → NameFrom empty (b ∷ name)
begun b name is (end rest all) true = part b rest (All-cons IsPlain b rest is all)
begun b name is (end rest all) false = end (b ∷ rest) (All-cons IsPlain b rest is all)
begun b name is (more rest next all further) true = join b rest next (All-cons IsPlain b rest is all) further
begun b name is (more rest next all further) false = more (b ∷ rest) next (All-cons IsPlain b rest is all) further

apart : (b n : ℕ) → (b == n) ≡ false → b ≢ n
apart b n is same = let test : eqb b n ≡ true = eq-eqb b n same in cc (test, is)

name_step : (empty : Bool) (b : ℕ) (bs after : List ℕ) (t59 t47 t46 t91 : Bool) → (b == 59) ≡ t59 → (b == 47) ≡ t47 → (b == 46) ≡ t46 → (b == 91) ≡ t91
    → cond t59 (cond empty None (Some bs)) (cond t47 (cond empty None (parse.name_end true bs)) (cond (t46 || t91) None (parse.name_end false bs))) ≡ Some after
    → ((e : Bool) → parse.name_end e bs ≡ Some after → Named e bs after) → Named empty (b ∷ bs) after
name_step true b bs after true t47 t46 t91 e59 e47 e46 e91 h further = absurd (cc h)
name_step false b bs after true t47 t46 t91 e59 e47 e46 e91 h further =
    let is : b ≡ 59 = eqb-true b 59 e59 in
    let same : bs ≡ after = cc h in
    ([], ap (λ x. x ∷ bs) is ∙ ap (λ xs. 59 ∷ xs) same, end [] (All-nil IsPlain))
name_step true b bs after false true t46 t91 e59 e47 e46 e91 h further = absurd (cc h)
name_step false b bs after false true t46 t91 e59 e47 e46 e91 h further =
    let is : b ≡ 47 = eqb-true b 47 e47 in
    let found : Named true bs after = further true h in
    (47 ∷ found.0, ap (λ x. x ∷ bs) is ∙ ap (λ xs. 47 ∷ xs) found.1, more [] found.0 (All-nil IsPlain) found.2)
name_step empty b bs after false false true t91 e59 e47 e46 e91 h further = absurd (cc h)
name_step empty b bs after false false false true e59 e47 e46 e91 h further = absurd (cc h)
name_step empty b bs after false false false false e59 e47 e46 e91 h further =
    let found : Named false bs after = further false h in
    (b ∷ found.0, ap (λ xs. b ∷ xs) found.1, begun b found.0 (apart b 46 e46, apart b 59 e59, apart b 91 e91, apart b 47 e47) found.2 empty)

name_given : (empty : Bool) (bytes after : List ℕ) → parse.name_end empty bytes ≡ Some after → Named empty bytes after
name_given empty [] after h = absurd (cc h)
name_given empty (b ∷ bs) after h = name_step empty b bs after (b == 59) (b == 47) (b == 46) (b == 91) refl refl refl refl h (λ e. name_given e bs after)

letter_by : (b : ℕ) (kind : ValueKind) (t73 t90 t74 t66 t67 t68 t70 t83 : Bool)
    → (b == 73) ≡ t73 → (b == 90) ≡ t90 → (b == 74) ≡ t74 → (b == 66) ≡ t66 → (b == 67) ≡ t67 → (b == 68) ≡ t68 → (b == 70) ≡ t70 → (b == 83) ≡ t83
    → cond (t73 || t90) (Some Int) (cond t74 (Some Long) (cond (t66 || t67 || t68 || t70 || t83) (Some Reference) None)) ≡ Some kind → IsLetter b kind
letter_by b kind true t90 t74 t66 t67 t68 t70 t83 e73 e90 e74 e66 e67 e68 e70 e83 h =
    let is : 73 ≡ b = sym (eqb-true b 73 e73) in let k : Int ≡ kind = cc h in subst (λ x. IsLetter x kind) is (subst (IsLetter 73) k int)
letter_by b kind false true t74 t66 t67 t68 t70 t83 e73 e90 e74 e66 e67 e68 e70 e83 h =
    let is : 90 ≡ b = sym (eqb-true b 90 e90) in let k : Int ≡ kind = cc h in subst (λ x. IsLetter x kind) is (subst (IsLetter 90) k boolean)
letter_by b kind false false true t66 t67 t68 t70 t83 e73 e90 e74 e66 e67 e68 e70 e83 h =
    let is : 74 ≡ b = sym (eqb-true b 74 e74) in let k : Long ≡ kind = cc h in subst (λ x. IsLetter x kind) is (subst (IsLetter 74) k long)
letter_by b kind false false false true t67 t68 t70 t83 e73 e90 e74 e66 e67 e68 e70 e83 h =
    let is : 66 ≡ b = sym (eqb-true b 66 e66) in let k : Reference ≡ kind = cc h in subst (λ x. IsLetter x kind) is (subst (IsLetter 66) k byte)
letter_by b kind false false false false true t68 t70 t83 e73 e90 e74 e66 e67 e68 e70 e83 h =
    let is : 67 ≡ b = sym (eqb-true b 67 e67) in let k : Reference ≡ kind = cc h in subst (λ x. IsLetter x kind) is (subst (IsLetter 67) k char)
letter_by b kind false false false false false true t70 t83 e73 e90 e74 e66 e67 e68 e70 e83 h =
    let is : 68 ≡ b = sym (eqb-true b 68 e68) in let k : Reference ≡ kind = cc h in subst (λ x. IsLetter x kind) is (subst (IsLetter 68) k double)
letter_by b kind false false false false false false true t83 e73 e90 e74 e66 e67 e68 e70 e83 h =
    let is : 70 ≡ b = sym (eqb-true b 70 e70) in let k : Reference ≡ kind = cc h in subst (λ x. IsLetter x kind) is (subst (IsLetter 70) k float)
letter_by b kind false false false false false false false true e73 e90 e74 e66 e67 e68 e70 e83 h =
    let is : 83 ≡ b = sym (eqb-true b 83 e83) in let k : Reference ≡ kind = cc h in subst (λ x. IsLetter x kind) is (subst (IsLetter 83) k short)
letter_by b kind false false false false false false false false e73 e90 e74 e66 e67 e68 e70 e83 h = absurd (cc h)

letter_given : (b : ℕ) (kind : ValueKind) → parse.letter b ≡ Some kind → IsLetter b kind
letter_given b kind h = letter_by b kind (b == 73) (b == 90) (b == 74) (b == 66) (b == 67) (b == 68) (b == 70) (b == 83) refl refl refl refl refl refl refl refl h

-- what is in front of bytes where a type was read
abbrev pub Starts : List ℕ → ValueKind × List ℕ → Type 0
Starts bytes found = (type : List ℕ) × (bytes ≡ type ++ found.1) × IsType type found.0

class_given : (bs : List ℕ) (found : ValueKind × List ℕ) (o : Option (List ℕ)) → parse.name_end true bs ≡ o → option_map (λ after. (Reference, after)) o ≡ Some found
    → Starts (76 ∷ bs) found
class_given bs found None is h = absurd (cc h)
class_given bs found (Some after) is h =
    let same : (Reference, after) ≡ found = cc h in
    let name : Named true bs after = name_given true bs after is in
    subst (Starts (76 ∷ bs)) same
    (76 ∷ name.0 ++ 59 ∷ [], ap (λ xs. 76 ∷ xs) (name.1 ∙ sym (append_assoc name.0 (59 ∷ []) after)), class name.0 name.2)

one_given : (b : ℕ) (bs : List ℕ) (found : ValueKind × List ℕ) (o : Option ValueKind) → parse.letter b ≡ o → option_map (λ kind. (kind, bs)) o ≡ Some found → Starts (b ∷ bs) found
one_given b bs found None is h = absurd (cc h)
one_given b bs found (Some kind) is h =
    let same : (kind, bs) ≡ found = cc h in
    subst (Starts (b ∷ bs)) same (b ∷ [], refl, letter b kind (letter_given b kind is))

array_given : (bs : List ℕ) (found : ValueKind × List ℕ) (o : Option (ValueKind × List ℕ)) → option_map parse.array_of o ≡ Some found
    → ((p : ValueKind × List ℕ) → o ≡ Some p → Starts bs p) → Starts (91 ∷ bs) found
array_given bs found None h further = absurd (cc h)
array_given bs found (Some p) h further =
    let same : (Reference, p.1) ≡ found = cc h in
    let inner : Starts bs p = further p refl in
    subst (Starts (91 ∷ bs)) same (91 ∷ inner.0, ap (λ xs. 91 ∷ xs) inner.1, array inner.0 p.0 inner.2)

type_step : (b : ℕ) (bs : List ℕ) (found : ValueKind × List ℕ) (t91 t76 : Bool) → (b == 91) ≡ t91 → (b == 76) ≡ t76
    → cond t91 (option_map parse.array_of (parse.type_in_front bs)) (cond t76 (option_map (λ after. (Reference, after)) (parse.name_end true bs)) (option_map (λ kind. (kind, bs)) (parse.letter b))) ≡ Some found
    → ((p : ValueKind × List ℕ) → parse.type_in_front bs ≡ Some p → Starts bs p) → Starts (b ∷ bs) found
type_step b bs found true t76 e91 e76 h further =
    let is : 91 ≡ b = sym (eqb-true b 91 e91) in
    subst (λ x. Starts (x ∷ bs) found) is (array_given bs found (parse.type_in_front bs) h further)
type_step b bs found false true e91 e76 h further =
    let is : 76 ≡ b = sym (eqb-true b 76 e76) in
    subst (λ x. Starts (x ∷ bs) found) is (class_given bs found (parse.name_end true bs) refl h)
type_step b bs found false false e91 e76 h further = one_given b bs found (parse.letter b) refl h

-- a type that is read stands in front
pub type_given : (bytes : List ℕ) (found : ValueKind × List ℕ) → parse.type_in_front bytes ≡ Some found → Starts bytes found
type_given [] found h = absurd (cc h)
type_given (b ∷ bs) found h = type_step b bs found (b == 91) (b == 76) refl refl h (type_given bs)

-- the whole of bytes is a type that was read
pub whole_given : (bytes : List ℕ) (kind : ValueKind) (after : List ℕ) → parse.type_in_front bytes ≡ Some (kind, after) → after ≡ [] → IsType bytes kind
whole_given bytes kind after h none =
    let found : Starts bytes (kind, after) = type_given bytes (kind, after) h in
    subst (λ xs. IsType xs kind) (sym (found.1 ∙ ap (λ xs. found.0 ++ xs) none ∙ append-nil found.0)) found.2

pub whole_read : (bytes : List ℕ) (kind : ValueKind) → IsType bytes kind → parse.type_in_front bytes ≡ Some (kind, [])
whole_read bytes kind is = ap parse.type_in_front (sym (append-nil bytes)) ∙ type_read bytes kind [] is

pub some_pair : (p q : ValueKind × List ℕ) → Some p ≡ Some q → (p.0 ≡ q.0) × (p.1 ≡ q.1)
some_pair p q h = let same : p ≡ q = cc h in (ap (λ r. r.0) same, ap (λ r. r.1) same)

-- the kind of a type is the one that is read
pub whole_kind : (bytes : List ℕ) (found kind : ValueKind) (after : List ℕ) → parse.type_in_front bytes ≡ Some (found, after) → IsType bytes kind → (found ≡ kind) × (after ≡ [])
whole_kind bytes found kind after read is = some_pair (found, after) (kind, []) (sym read ∙ whole_read bytes kind is)
