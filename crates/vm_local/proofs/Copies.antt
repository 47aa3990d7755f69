-- Operands with copies of some of them.
use Rattle.std.proofs.Common.{◌≡◌, ℕ, zero, suc, ◌+◌, ◌<◌, ◌≤◌, Bool, true, false, if◌then◌else◌, List, [], ◌∷◌, ◌++◌, length, take, drop, Option, Some, None, IfSome, refl, sym, ap, ◌∙◌, append_assoc, add-one, arith}
use Rattle.std.specs.Prelude.{slice_get, nat_eq}
use Rattle.std.proofs.lemmas.Bool.Decides.{nat_tests}
use Rattle.vm_state.specs.declared.value.Value.{Value}
use Rattle.vm_state.specs.declared.value.Value.TheVariants.{Int, Long, Null, Ref, Text, BoxInt, BoxLong, BoxBool, BoxUnit, Latch, Evaluating, NullValue}
use Rattle.vm_state.specs.Held.{Held}
use Rattle.vm_state.specs.Values.{width, depth}
use Rattle.vm_state.specs.Instructions.{one_unit, one_more, two_units, whole, with_copies}

pub depth_insert : (n : ℕ) (v : Value) (vs : List Value) → depth (take n vs ++ (v ∷ drop n vs)) ≡ depth vs + width v
depth_insert zero v [] = refl
depth_insert zero v (x ∷ vs) = refl
depth_insert (suc n) v [] = refl
depth_insert (suc n) v (x ∷ vs) = omega (arith, depth_insert n v vs)

abbrev pub insert_at : ℕ → Value → List Value → List Value
insert_at n v vs = take n vs ++ (v ∷ drop n vs)

pub length_insert : (n : ℕ) (v : Value) (vs : List Value) → length (take n vs ++ (v ∷ drop n vs)) ≡ length vs + 1
length_insert zero v [] = refl
length_insert zero v (x ∷ vs) = omega arith
length_insert (suc n) v [] = refl
length_insert (suc n) v (x ∷ vs) = omega (arith, length_insert n v vs)

-- what is above the number stays
pub take_insert : (c n : ℕ) (v : Value) (vs : List Value) → c ≤ n → n ≤ length vs → take c (take n vs ++ (v ∷ drop n vs)) ≡ take c vs
take_insert zero n v vs le there = refl
take_insert (suc c) zero v vs le there = absurd (omega arith)
take_insert (suc c) (suc n) v [] le there = absurd (omega arith)
take_insert (suc c) (suc n) v (x ∷ vs) le there = ap (λ l. x ∷ l) (take_insert c n v vs (omega arith) (omega arith))

pub drop_insert : (n : ℕ) (v : Value) (vs : List Value) → n ≤ length vs → drop n (take n vs ++ (v ∷ drop n vs)) ≡ v ∷ drop n vs
drop_insert zero v vs there = refl
drop_insert (suc n) v [] there = absurd (omega arith)
drop_insert (suc n) v (x ∷ vs) there = drop_insert n v vs (omega arith)

pub take_one_more : (c : ℕ) (v : Value) (vs : List Value) → slice_get vs c ≡ Some v → take (suc c) vs ≡ take c vs ++ (v ∷ [])
take_one_more c v [] is = absurd (cc)
take_one_more zero v (x ∷ vs) is = ap (λ y. y ∷ []) (cc)
take_one_more (suc c) v (x ∷ vs) is = ap (λ l. x ∷ l) (take_one_more c v vs is)

depth_last : (vs : List Value) (v : Value) → depth (vs ++ (v ∷ [])) ≡ depth vs + width v
depth_last [] v = refl
depth_last (x ∷ vs) v = omega (arith, depth_last vs v)

pub depth_one_more : (c : ℕ) (v : Value) (vs : List Value) → slice_get vs c ≡ Some v → depth (take (suc c) vs) ≡ depth (take c vs) + width v
depth_one_more c v vs is = ap depth (take_one_more c v vs is) ∙ depth_last (take c vs) v

-- one copy, and then the others
pub copied : (c n : ℕ) (v : Value) (vs : List Value) → slice_get vs c ≡ Some v → suc c ≤ n → n ≤ length vs
    → with_copies c n (take n vs ++ (v ∷ drop n vs)) ≡ with_copies (suc c) n vs
copied c n v vs is le there =
    ap (λ l. l ++ (take c (insert_at n v vs) ++ drop n (insert_at n v vs))) (take_insert n n v vs (omega arith) there)
    ∙ ap (λ l. take n vs ++ (l ++ drop n (insert_at n v vs))) (take_insert c n v vs (omega arith) there)
    ∙ ap (λ l. take n vs ++ (take c vs ++ l)) (drop_insert n v vs there)
    ∙ ap (λ l. take n vs ++ l) (sym (ap (λ l. l ++ drop n vs) (take_one_more c v vs is) ∙ append_assoc (take c vs) (v ∷ []) (drop n vs)))

-- a value of one unit is no Long
one_is : (v : Value) (count : ℕ) → one_unit (Some v) ≡ Some count → (count ≡ 1) × (width v ≡ 1)
one_is (Long n) count e = absurd (cc)
one_is (Int n) count e = (cc, refl)
one_is Null count e = (cc, refl)
one_is (Ref at class) count e = (cc, refl)
one_is (Text at) count e = (cc, refl)
one_is (BoxInt n) count e = (cc, refl)
one_is (BoxLong n) count e = (cc, refl)
one_is (BoxBool b) count e = (cc, refl)
one_is BoxUnit count e = (cc, refl)
one_is (Latch at owner) count e = (cc, refl)
one_is (Evaluating thread) count e = (cc, refl)
one_is NullValue count e = (cc, refl)

one_depth : (vs : List Value) (count : ℕ) → one_unit (slice_get vs 0) ≡ Some count → depth (take count vs) ≤ 1
one_depth [] count e = absurd (cc)
one_depth (v ∷ vs) count e = let is = one_is v count e in rw is.0 (omega (arith, is.1))

more_is : (o : Option ℕ) (count : ℕ) → one_more o ≡ Some count → (n : ℕ) × (o ≡ Some n) × (count ≡ suc n)
more_is None count e = absurd (cc)
more_is (Some n) count e = let is : count ≡ n + 1 = cc in (n, refl, omega arith)

two_rest : (v : Value) (vs : List Value) (count : ℕ) → width v ≡ 1 → one_more (one_unit (slice_get vs 0)) ≡ Some count → depth (take count (v ∷ vs)) ≤ 2
two_rest v vs count w e =
    let m = more_is (one_unit (slice_get vs 0)) count e in
    rw m.2 (omega (arith, one_depth vs m.0 m.1, w))

two_depth : (vs : List Value) (count : ℕ) → two_units (slice_get vs 0) (slice_get vs 1) ≡ Some count → depth (take count vs) ≤ 2
two_depth [] count e = absurd (cc)
two_depth (Long n ∷ vs) count e = let is : count ≡ 1 = cc in rw is (omega arith)
two_depth (Int n ∷ vs) count e = two_rest (Int n) vs count refl e
two_depth (Null ∷ vs) count e = two_rest Null vs count refl e
two_depth (Ref at class ∷ vs) count e = two_rest (Ref at class) vs count refl e
two_depth (Text at ∷ vs) count e = two_rest (Text at) vs count refl e
two_depth (BoxInt n ∷ vs) count e = two_rest (BoxInt n) vs count refl e
two_depth (BoxLong n ∷ vs) count e = two_rest (BoxLong n) vs count refl e
two_depth (BoxBool b ∷ vs) count e = two_rest (BoxBool b) vs count refl e
two_depth (BoxUnit ∷ vs) count e = two_rest BoxUnit vs count refl e
two_depth (Latch at owner ∷ vs) count e = two_rest (Latch at owner) vs count refl e
two_depth (Evaluating thread ∷ vs) count e = two_rest (Evaluating thread) vs count refl e
two_depth (NullValue ∷ vs) count e = two_rest NullValue vs count refl e

one_length : (vs : List Value) (from count : ℕ) → one_unit (slice_get vs from) ≡ Some count → from + count ≤ length vs
one_length [] from count e = absurd (cc)
one_length (v ∷ vs) zero count e = omega (arith, (one_is v count e).0)
one_length (v ∷ vs) (suc from) count e = omega (arith, one_length vs from count e)

rest_length : (vs : List Value) (count : ℕ) → one_more (one_unit (slice_get vs 0)) ≡ Some count → count ≤ length vs + 1
rest_length vs count e =
    let m = more_is (one_unit (slice_get vs 0)) count e in
    omega (arith, m.2, one_length vs 0 m.0 m.1)

two_length : (vs : List Value) (from count : ℕ) → two_units (slice_get vs from) (slice_get vs (suc from)) ≡ Some count → from + count ≤ length vs
two_length [] from count e = absurd (cc)
two_length (Long n ∷ vs) zero count e = let is : count ≡ 1 = cc in omega arith
two_length (Int n ∷ vs) zero count e = omega (arith, rest_length vs count e)
two_length (Null ∷ vs) zero count e = omega (arith, rest_length vs count e)
two_length (Ref at class ∷ vs) zero count e = omega (arith, rest_length vs count e)
two_length (Text at ∷ vs) zero count e = omega (arith, rest_length vs count e)
two_length (BoxInt n ∷ vs) zero count e = omega (arith, rest_length vs count e)
two_length (BoxLong n ∷ vs) zero count e = omega (arith, rest_length vs count e)
two_length (BoxBool b ∷ vs) zero count e = omega (arith, rest_length vs count e)
two_length (BoxUnit ∷ vs) zero count e = omega (arith, rest_length vs count e)
two_length (Latch at owner ∷ vs) zero count e = omega (arith, rest_length vs count e)
two_length (Evaluating thread ∷ vs) zero count e = omega (arith, rest_length vs count e)
two_length (NullValue ∷ vs) zero count e = omega (arith, rest_length vs count e)
two_length (v ∷ vs) (suc from) count e = omega (arith, two_length vs from count e)

-- the units of so many values
pub whole_depth : (n : ℕ) (vs : List Value) (count : ℕ) → whole n vs 0 ≡ Some count → depth (take count vs) ≤ n
whole_depth n vs count = by_tests (nat_eq n 1) (nat_eq n 2) refl refl
  where
    by_tests : (one two : Bool) → nat_eq n 1 ≡ one → nat_eq n 2 ≡ two → (if one then one_unit (slice_get vs 0) else (if two then two_units (slice_get vs 0) (slice_get vs 1) else Some 0)) ≡ Some count → depth (take count vs) ≤ n
    by_tests true two is_one is_two e = let is : n ≡ 1 = grind (arith, nat_tests) in omega (arith, is, one_depth vs count e)
    by_tests false true is_one is_two e = let is : n ≡ 2 = grind (arith, nat_tests) in omega (arith, is, two_depth vs count e)
    by_tests false false is_one is_two e = let none : count ≡ 0 = cc in rw none (omega arith)

pub whole_length : (n : ℕ) (vs : List Value) (from count : ℕ) → from ≤ length vs → whole n vs from ≡ Some count → from + count ≤ length vs
whole_length n vs from count there = by_tests (nat_eq n 1) (nat_eq n 2)
  where
    by_tests : (one two : Bool) → (if one then one_unit (slice_get vs from) else (if two then two_units (slice_get vs from) (slice_get vs (from + 1)) else Some 0)) ≡ Some count → from + count ≤ length vs
    by_tests true two e = one_length vs from count e
    by_tests false true e = two_length vs from count (rw add-one at e)
    by_tests false false e = let none : count ≡ 0 = cc in omega (arith, none, there)

pub whole_more : (n m : ℕ) (vs : List Value) (count : ℕ) (found : Option ℕ) → whole n vs 0 ≡ Some count → found ≡ whole m vs count → IfSome found (λ more. more < 3) → IfSome found (λ more. (more < 3) × (count + more ≤ length vs))
whole_more n m vs count None e f few = tt
whole_more n m vs count (Some more) e f few =
    let there = whole_length n vs 0 count (omega arith) e in
    (few, whole_length m vs count more (omega arith) (sym f))

abbrev pub held : List Value → ℕ → Held
held vs room = record { values = vs; room = room }
