-- What is read is spelled so: the pool, and its references.
use Rattle.std.proofs.Common.{◌≡◌, refl, sym, ap, ◌∙◌, subst, ℕ, zero, suc, ◌+◌, ◌-◌, ◌^◌, ◌<◌, ◌⊎◌, inl, inr, List, [], ◌∷◌, ◌++◌, length, drop, Result, Ok, Err, Bool, true, false, append_assoc, length-append, arith}
use Rattle.std.specs.Prelude.{IsTrue, nat_lt, if◌then◌else◌}
use Rattle.std.specs.List.{flat_map, AllByRecursion}
use Rattle.std.specs.Int.{w16, from_be_bytes}
use Rattle.std.proofs.lemmas.Bool.{cond-true, cond-false, and_from, le-ltb}
use Rattle.std.proofs.lemmas.List.{append-nil, drop_at, take_at}
use Rattle.std.proofs.lemmas.Nat.{from_be_bytes-to_be_bytes_2}
use Rattle.cf_form.specs.Pool.{u2, Fits2, constant_bytes, ConstantFits, is_of, entries_of, pool_of, names, refers_well}
use Rattle.cf_form.specs.declared.constant.Const.{Const}
use Rattle.cf_form.specs.declared.constant.Const.TheVariants.{Utf8, Int, Float, Long, Double, Class, Text, Field, Method, Interface, NameType, Rest}
use Rattle.cf_form.specs.declared.kind.Kind.{Kind}
use Rattle.cf_form.specs.declared.kind.Kind.TheVariants as kind
use Rattle.cf_read.specs.declared.fault.Fault.{Fault}
use Rattle.cf_read.specs.declared.file_fault.FileKind.TheVariants as fault
use Rattle.cf_read.specs.Reading.{Read, ◌>>=◌, demand, some_at, u2_at, constant_at, entries_at, pool_at, index_at, indexes_at, references_at, all_references_at}
use Rattle.cf_read.proofs.Loops.{count_of}
use Rattle.cf_read.proofs.Takes.{Given, given_bind, given_demand, IsBytes, Takes, then_takes, takes_text, NumberTaken, u2_takes, constant_takes, ConstantTaken}

-- constants of so many entries
pub record PoolTaken (count : ℕ) (bytes : List ℕ) (x : List Const × List ℕ) : Type 0 where
  pub constants : List Const
  pub are : x.0 ≡ pool_of constants
  pub fits : AllByRecursion ConstantFits constants
  pub takes : Takes bytes (flat_map constant_bytes constants) x.1
  pub many : length (pool_of constants) ≡ count

one_entry : (c : Const) → is_of kind.Double c ≡ false → entries_of c ≡ c ∷ []
one_entry (Long x) e = absurd cc
one_entry (Double bits) e = absurd cc
one_entry (Utf8 text) e = refl
one_entry (Int x) e = refl
one_entry (Float bits) e = refl
one_entry (Class name) e = refl
one_entry (Text text) e = refl
one_entry (Field class member) e = refl
one_entry (Method class member) e = refl
one_entry (Interface class member) e = refl
one_entry (NameType name descriptor) e = refl
one_entry Rest e = refl

pool_size : (c : Const) (cs : List Const) → length (pool_of (c ∷ cs)) ≡ length (entries_of c) + length (pool_of cs)
pool_size c cs = length-append (entries_of c) (pool_of cs)

-- a constant, and those after it
taken_more : (last : Bool) (count left : ℕ) (bytes : List ℕ) (one : Const × List ℕ) (x : List Const × List ℕ) → ConstantTaken last bytes one
    → PoolTaken left one.1 x → count ≡ length (entries_of one.0) + left → PoolTaken count bytes (entries_of one.0 ++ x.0, x.1)
taken_more last count left bytes one x p q e = record {
  constants = one.0 ∷ q.constants;
  are = ap (λ l. entries_of one.0 ++ l) q.are;
  fits = (p.1, q.fits);
  takes = then_takes bytes (constant_bytes one.0) one.1 (flat_map constant_bytes q.constants) x.1 p.0 q.takes;
  many = pool_size one.0 q.constants ∙ ap (λ n. length (entries_of one.0) + n) q.many ∙ sym e;
}

abbrev after_one : ℕ → Const × List ℕ → Read (List Const)
after_one n one = (if is_of kind.Double one.0 then entries_at n one.1 else entries_at (suc n) one.1) >>= λ others. Ok (entries_of one.0 ++ others.0, others.1)

others_taken : (n : ℕ) (bytes : List ℕ) (one : Const × List ℕ) → ConstantTaken false bytes one
    → ((is_of kind.Double one.0 ≡ true) × (length (entries_of one.0) ≡ 2)) ⊎ ((is_of kind.Double one.0 ≡ false) × (length (entries_of one.0) ≡ 1))
    → Given (PoolTaken n one.1) (entries_at n one.1) → Given (PoolTaken (suc n) one.1) (entries_at (suc n) one.1)
    → Given (PoolTaken (suc (suc n)) bytes) (after_one n one)
others_taken n bytes one p (inl w) two more =
    given_bind (PoolTaken n one.1) (PoolTaken (suc (suc n)) bytes) _ (λ others. Ok (entries_of one.0 ++ others.0, others.1))
    (subst (Given (PoolTaken n one.1)) (sym (cond-true (is_of kind.Double one.0) (entries_at n one.1) (entries_at (suc n) one.1) w.0)) two)
    (λ x q. taken_more false (suc (suc n)) n bytes one x p q (omega (arith, w.1)))
others_taken n bytes one p (inr w) two more =
    given_bind (PoolTaken (suc n) one.1) (PoolTaken (suc (suc n)) bytes) _ (λ others. Ok (entries_of one.0 ++ others.0, others.1))
    (subst (Given (PoolTaken (suc n) one.1)) (sym (cond-false (is_of kind.Double one.0) (entries_at n one.1) (entries_at (suc n) one.1) w.0)) more)
    (λ x q. taken_more false (suc (suc n)) (suc n) bytes one x p q (omega (arith, w.1)))

pub entries_take : (count : ℕ) (bytes : List ℕ) → IsBytes bytes → Given (PoolTaken count bytes) (entries_at count bytes)
unfolding entries_at
entries_take zero bytes h = record { constants = []; are = refl; fits = tt; takes = record { parts = refl; fits = h }; many = refl }
entries_take (suc zero) bytes h =
    given_bind _ (PoolTaken 1 bytes) (constant_at true bytes) _ (constant_takes true bytes h) (λ one p. record {
      constants = one.0 ∷ [];
      are = sym (append-nil (entries_of one.0));
      fits = (p.1, tt);
      takes = takes_text bytes _ _ one.1 (sym (append-nil (constant_bytes one.0))) p.0;
      many = pool_size one.0 [] ∙ ap (λ (l : List Const). length l + 0) (one_entry one.0 (p.2 refl));
    })
entries_take (suc (suc n)) bytes h =
    given_bind _ (PoolTaken (suc (suc n)) bytes) (constant_at false bytes) _ (constant_takes false bytes h) (λ one p.
    others_taken n bytes one p (count_of one.0) (entries_take n one.1 p.0.fits) (entries_take (suc n) one.1 p.0.fits))

-- the pool after its count; a count of 0 isn't spelled, so it is told
pub record CountedPool (bytes : List ℕ) (x : List Const × List ℕ) : Type 0 where
  pub count : ℕ
  pub below : count < 2 ^ 16
  pub behind : List ℕ
  pub first : Takes bytes (u2 count) behind
  pub pool : PoolTaken (count - 1) behind x

pub pool_takes : (bytes : List ℕ) → IsBytes bytes → Given (CountedPool bytes) (pool_at bytes)
unfolding pool_at
pool_takes bytes h =
    given_bind _ (CountedPool bytes) (u2_at bytes) _ (u2_takes bytes h) (λ count p. by count p (entries_at (count.0 - 1) count.1) (entries_take (count.0 - 1) count.1 p.0.fits))
  where
    by : (count : ℕ × List ℕ) → NumberTaken u2 (2 ^ 16) bytes count → (r : Read (List Const)) → Given (PoolTaken (count.0 - 1) count.1) r → Given (CountedPool bytes) r
    by count p (Ok x) q = record { count = count.0; below = p.1; behind = count.1; first = p.0; pool = q }
    by count p (Err f) q = tt

-- ---- references

-- bytes that are spelled are read, and numbers
pub some_again : (n : ℕ) (xs rest : List ℕ) → length xs ≡ n → some_at n (xs ++ rest) ≡ Ok (xs, rest)
unfolding some_at
some_again n xs rest e =
    let long : nat_lt (length (xs ++ rest)) n ≡ false = le-ltb _ _ (omega (arith, length-append xs rest)) in
    let both : List ℕ → List ℕ → Read (List ℕ) = λ a b. Ok (a, b) in
    cond-false (nat_lt (length (xs ++ rest)) n) _ _ long ∙ ap (λ a. both a (drop n (xs ++ rest))) (take_at xs rest n e) ∙ ap (both xs) (drop_at xs rest n e)

pub u2_again : (n : ℕ) (rest : List ℕ) → Fits2 n → u2_at (u2 n ++ rest) ≡ Ok (n, rest)
unfolding u2_at
u2_again n rest l =
    let made : ℕ → Read ℕ = λ m. Ok (m, rest) in
    ap (λ (r : Read (List ℕ)). r >>= λ two. Ok (from_be_bytes w16 two.0, two.1)) (some_again 2 (u2 n) rest refl) ∙ ap made (from_be_bytes-to_be_bytes_2 n l)

abbrev pub NamesThen : List Const → Kind → ℕ → List ℕ → ℕ × List ℕ → Type 0
NamesThen pool k n rest x = IsTrue (names pool k n) × (x.0 ≡ n) × (x.1 ≡ rest)

pub index_names : (pool : List Const) (k : Kind) (n : ℕ) (rest : List ℕ) → Fits2 n → Given (NamesThen pool k n rest) (index_at pool k (u2 n ++ rest))
unfolding index_at
index_names pool k n rest l =
    subst (λ (r : Read ℕ). Given (NamesThen pool k n rest) (r >>= λ index. demand (names pool k index.0) fault.Index (u2 n ++ rest) >>= λ _. Ok index)) (sym (u2_again n rest l))
    (given_demand (NamesThen pool k n rest) (names pool k n) fault.Index (u2 n ++ rest) _ (λ e. (e, refl, refl)))

pub index_again : (pool : List Const) (k : Kind) (n : ℕ) (rest : List ℕ) → Fits2 n → IsTrue (names pool k n) → index_at pool k (u2 n ++ rest) ≡ Ok (n, rest)
unfolding index_at
index_again pool k n rest l t =
    ap (λ (r : Read ℕ). r >>= λ index. demand (names pool k index.0) fault.Index (u2 n ++ rest) >>= λ _. Ok index) (u2_again n rest l)
    ∙ ap (λ b. demand b fault.Index (u2 n ++ rest) >>= λ _. Ok (n, rest)) t

abbrev pub BothName : List Const → Kind → Kind → ℕ → ℕ → Unit {0} × List ℕ → Type 0
BothName pool k m a b x = IsTrue (names pool k a) × IsTrue (names pool m b)

pub indexes_name : (pool : List Const) (k m : Kind) (a b : ℕ) (rest : List ℕ) → Fits2 a → Fits2 b
    → Given (BothName pool k m a b) (indexes_at pool k m (u2 a ++ (u2 b ++ rest)))
unfolding indexes_at
indexes_name pool k m a b rest l n =
    given_bind _ (BothName pool k m a b) (index_at pool k (u2 a ++ (u2 b ++ rest))) _ (index_names pool k a (u2 b ++ rest) l) (λ x p.
    given_bind (NamesThen pool m b rest) (BothName pool k m a b) (index_at pool m x.1) _
    (subst (λ bytes. Given (NamesThen pool m b rest) (index_at pool m bytes)) (sym p.2) (index_names pool m b rest n)) (λ y q. (p.0, q.0)))

pub indexes_again : (pool : List Const) (k m : Kind) (a b : ℕ) (rest : List ℕ) → Fits2 a → Fits2 b → IsTrue (names pool k a) → IsTrue (names pool m b)
    → indexes_at pool k m (u2 a ++ (u2 b ++ rest)) ≡ Ok (tt, rest)
unfolding indexes_at
indexes_again pool k m a b rest l n s t =
    ap (λ (r : Read ℕ). r >>= λ first. index_at pool m first.1 >>= λ second. Ok (tt, second.1)) (index_again pool k a (u2 b ++ rest) l s)
    ∙ ap (λ (r : Read ℕ). r >>= λ second. Ok (tt, second.1)) (index_again pool m b rest n t)

abbrev Refers : List Const → Const → Unit {0} → Type 0
Refers pool c x = IsTrue (refers_well pool c)

refer : (pool : List Const) (c : Const) (rest : List ℕ) → ConstantFits c → Given (Refers pool c) (references_at pool c (drop 1 (constant_bytes c ++ rest)))
unfolding references_at
refer pool (Class name) rest l = given_bind _ (Refers pool (Class name)) (index_at pool kind.Utf8 (u2 name ++ rest)) _ (index_names pool kind.Utf8 name rest l) (λ x p. p.0)
refer pool (Text text) rest l = given_bind _ (Refers pool (Text text)) (index_at pool kind.Utf8 (u2 text ++ rest)) _ (index_names pool kind.Utf8 text rest l) (λ x p. p.0)
refer pool (Field class member) rest l = given_bind _ (Refers pool (Field class member)) (indexes_at pool kind.Class kind.NameType (u2 class ++ (u2 member ++ rest))) _ (indexes_name pool kind.Class kind.NameType class member rest l.0 l.1) (λ x p. and_from _ _ p.0 p.1)
refer pool (Method class member) rest l = given_bind _ (Refers pool (Method class member)) (indexes_at pool kind.Class kind.NameType (u2 class ++ (u2 member ++ rest))) _ (indexes_name pool kind.Class kind.NameType class member rest l.0 l.1) (λ x p. and_from _ _ p.0 p.1)
refer pool (Interface class member) rest l = given_bind _ (Refers pool (Interface class member)) (indexes_at pool kind.Class kind.NameType (u2 class ++ (u2 member ++ rest))) _ (indexes_name pool kind.Class kind.NameType class member rest l.0 l.1) (λ x p. and_from _ _ p.0 p.1)
refer pool (NameType name descriptor) rest l = given_bind _ (Refers pool (NameType name descriptor)) (indexes_at pool kind.Utf8 kind.Utf8 (u2 name ++ (u2 descriptor ++ rest))) _ (indexes_name pool kind.Utf8 kind.Utf8 name descriptor rest l.0 l.1) (λ x p. and_from _ _ p.0 p.1)
refer pool (Utf8 text) rest l = refl
refer pool (Int x) rest l = refl
refer pool (Float bits) rest l = refl
refer pool (Long x) rest l = refl
refer pool (Double bits) rest l = refl
refer pool Rest rest l = refl

-- a constant's second entry has no references
rest_passed : (pool cs : List Const) (bytes : List ℕ) → all_references_at pool (Rest ∷ cs) bytes ≡ all_references_at pool cs bytes
unfolding all_references_at references_at
rest_passed pool cs bytes = refl

all_more : (pool : List Const) (c : Const) (cs : List Const) (bytes : List ℕ)
    → all_references_at pool (c ∷ cs) bytes ≡ (references_at pool c (drop 1 bytes) >>= λ _. all_references_at pool cs (drop (length (constant_bytes c)) bytes))
unfolding all_references_at
all_more pool c cs bytes = refl

-- the references of a constant with its entries, and of those after it
pub entries_refer : (pool : List Const) (c : Const) (cs : List Const) (bytes : List ℕ) → all_references_at pool (entries_of c ++ cs) bytes
    ≡ (references_at pool c (drop 1 bytes) >>= λ _. all_references_at pool cs (drop (length (constant_bytes c)) bytes))
entries_refer pool (Long x) cs bytes = all_more pool (Long x) (Rest ∷ cs) bytes ∙ ap (λ (r : Result (Unit {0}) Fault). references_at pool (Long x) (drop 1 bytes) >>= λ _. r) (rest_passed pool cs (drop 9 bytes))
entries_refer pool (Double x) cs bytes = all_more pool (Double x) (Rest ∷ cs) bytes ∙ ap (λ (r : Result (Unit {0}) Fault). references_at pool (Double x) (drop 1 bytes) >>= λ _. r) (rest_passed pool cs (drop 9 bytes))
entries_refer pool (Utf8 text) cs bytes = all_more pool (Utf8 text) cs bytes
entries_refer pool (Int x) cs bytes = all_more pool (Int x) cs bytes
entries_refer pool (Float bits) cs bytes = all_more pool (Float bits) cs bytes
entries_refer pool (Class name) cs bytes = all_more pool (Class name) cs bytes
entries_refer pool (Text text) cs bytes = all_more pool (Text text) cs bytes
entries_refer pool (Field class member) cs bytes = all_more pool (Field class member) cs bytes
entries_refer pool (Method class member) cs bytes = all_more pool (Method class member) cs bytes
entries_refer pool (Interface class member) cs bytes = all_more pool (Interface class member) cs bytes
entries_refer pool (NameType name descriptor) cs bytes = all_more pool (NameType name descriptor) cs bytes
entries_refer pool Rest cs bytes = all_more pool Rest cs bytes

abbrev AllRefer : List Const → List Const → Unit {0} → Type 0
AllRefer pool cs x = AllByRecursion (λ c. IsTrue (refers_well pool c)) cs

pub all_refer : (pool cs : List Const) (rest : List ℕ) → AllByRecursion ConstantFits cs
    → Given (AllRefer pool cs) (all_references_at pool (pool_of cs) (flat_map constant_bytes cs ++ rest))
unfolding all_references_at
all_refer pool [] rest h = tt
all_refer pool (c ∷ cs) rest h =
    let after : List ℕ = flat_map constant_bytes cs ++ rest in
    let regrouped : flat_map constant_bytes (c ∷ cs) ++ rest ≡ constant_bytes c ++ after = append_assoc (constant_bytes c) (flat_map constant_bytes cs) rest in
    let behind : drop (length (constant_bytes c)) (constant_bytes c ++ after) ≡ after = drop_at (constant_bytes c) after (length (constant_bytes c)) refl in
    subst (λ bytes. Given (AllRefer pool (c ∷ cs)) (all_references_at pool (entries_of c ++ pool_of cs) bytes)) (sym regrouped)
    (subst (Given (AllRefer pool (c ∷ cs))) (sym (entries_refer pool c (pool_of cs) (constant_bytes c ++ after)))
    (given_bind _ (AllRefer pool (c ∷ cs)) (references_at pool c (drop 1 (constant_bytes c ++ after))) _ (refer pool c after h.0) (λ x p.
    given_more c cs p _ (subst (λ bytes. Given (AllRefer pool cs) (all_references_at pool (pool_of cs) bytes)) (sym behind) (all_refer pool cs rest h.1)))))
  where
    given_more : (c : Const) (cs : List Const) → IsTrue (refers_well pool c) → (r : Result (Unit {0}) Fault) → Given (AllRefer pool cs) r → Given (AllRefer pool (c ∷ cs)) r
    given_more c cs p (Ok x) q = (p, q)
    given_more c cs p (Err f) q = tt
