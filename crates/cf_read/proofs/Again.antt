-- What is spelled so is read: numbers, constants and the pool.
use Rattle.std.proofs.Common.{◌≡◌, refl, ap, ◌∙◌, ℕ, ◌+◌, ◌-◌, ◌^◌, ◌<◌, ◌≤◌, ◌⊎◌, inl, inr, List, [], ◌∷◌, ◌++◌, length, drop, Result, Ok, Bool, true, false, append_assoc, length-append, arith, rules}
use Rattle.std.specs.Prelude.{ℤ, ◌==◌, ◌&&◌, ◌||◌, not, IsTrue, FitsSigned}
use Rattle.cf_form.specs.ClassFiles.{is_version}
use Rattle.std.specs.List.{flat_map, AllByRecursion}
use Rattle.std.specs.Int.{w32, w64, to_be_bytes, cast_unsigned}
use Rattle.std.proofs.lemmas.Bool.{and_parts, eqb-true}
use Rattle.std.proofs.lemmas.Int.{to_z-of_z, ints}
use Rattle.std.proofs.lemmas.List.{drop_at}
use Rattle.std.proofs.lemmas.Nat.{from_be_bytes-to_be_bytes_4, from_be_bytes-to_be_bytes_8}
use Rattle.cf_mutf8.specs.ModifiedUtf8.{encoded, IsText}
use Rattle.cf_mutf8.proofs.FirstCharacters.{decoded_iff}
use Rattle.cf_form.specs.Pool.{u2, u4, Fits2, constant_bytes, ConstantFits, is_of, entries_of, pool_of, names, refers_well}
use Rattle.cf_form.specs.declared.constant.Const.{Const}
use Rattle.cf_form.specs.declared.constant.Const.TheVariants.{Utf8, Int, Float, Long, Double, Class, Text, Field, Method, Interface, NameType, Rest}
use Rattle.cf_form.specs.declared.kind.Kind.TheVariants as kind
use Rattle.cf_read.specs.declared.fault.Fault.{Fault}
use Rattle.cf_read.specs.declared.file_fault.FileKind.{FileKind}
use Rattle.cf_read.specs.declared.file_fault.FileKind.TheVariants as fault
use Rattle.cf_read.specs.Reading.{Read, ◌>>=◌, demand, some_at, u1_at, u2_at, u4_at, u8_at, magic_at, version_at, text_or, text_constant_at, indexed_at, two_at, paired_at, int_at, float_at, long_at, double_at, tagged_at, constant_at, entries_at, pool_at, index_at, indexes_at, references_at, all_references_at}
use Rattle.cf_read.proofs.Loops.{with_front, count_of, entries_more}
use Rattle.cf_read.proofs.TakesPool.{some_again, u2_again, index_again, indexes_again, entries_refer}

-- a step that is known
pub bind_at : {A B : Type 0} (r : Result A Fault) (x : A) (g : A → Result B Fault) (y : Result B Fault) → r ≡ Ok x → g x ≡ y → (r >>= g) ≡ y
bind_at r x g y e f = ap (λ s. s >>= g) e ∙ f

pub demand_at : {B : Type 0} (b : Bool) (k : FileKind) (from : List ℕ) (g : Unit {0} → Result B Fault) (y : Result B Fault) → b ≡ true → g tt ≡ y → (demand b k from >>= g) ≡ y
demand_at b k from g y e f = ap (λ c. demand c k from >>= g) e ∙ f

abbrev done : {A : Type 0} → A → List ℕ → Read A
done x rest = Ok (x, rest)

pub u4_again : (n : ℕ) (rest : List ℕ) → n < 2 ^ 32 → u4_at (u4 n ++ rest) ≡ Ok (n, rest)
unfolding u4_at
u4_again n rest l = bind_at (some_at 4 (u4 n ++ rest)) (u4 n, rest) _ (Ok (n, rest)) (some_again 4 (u4 n) rest refl) (ap (λ m. done m rest) (from_be_bytes-to_be_bytes_4 n l))

pub u8_again : (n : ℕ) (rest : List ℕ) → n < 2 ^ 64 → u8_at (to_be_bytes w64 n ++ rest) ≡ Ok (n, rest)
unfolding u8_at
u8_again n rest l = bind_at (some_at 8 (to_be_bytes w64 n ++ rest)) (to_be_bytes w64 n, rest) _ (Ok (n, rest)) (some_again 8 (to_be_bytes w64 n) rest refl) (ap (λ m. done m rest) (from_be_bytes-to_be_bytes_8 n l))

pub magic_again : (rest : List ℕ) → magic_at (0xCA ∷ 0xFE ∷ 0xBA ∷ 0xBE ∷ rest) ≡ Ok (tt, rest)
unfolding magic_at
magic_again rest = bind_at (u4_at (u4 0xCAFEBABE ++ rest)) (0xCAFEBABE, rest) _ (Ok (tt, rest)) (u4_again 0xCAFEBABE rest (omega arith)) refl

pub version_again : (minor major : ℕ) (rest : List ℕ) → Fits2 minor → Fits2 major → IsTrue (is_version major)
    → version_at (u2 minor ++ (u2 major ++ rest)) ≡ Ok ((minor, major), rest)
unfolding version_at
version_again minor major rest l m v =
    let y : Read (ℕ × ℕ) = Ok ((minor, major), rest) in
    bind_at (u2_at (u2 minor ++ (u2 major ++ rest))) (minor, u2 major ++ rest) _ y (u2_again minor (u2 major ++ rest) l)
    (bind_at (u2_at (u2 major ++ rest)) (major, rest) _ y (u2_again major rest m)
    (demand_at (is_version major) fault.Version (u2 major ++ rest) _ y v refl))

-- ---- constants

may : (last wide : Bool) → (last ≡ true → wide ≡ false) → not (last && wide) ≡ true
may false wide h = refl
may true wide h = ap not (h refl)

text_again : (from text rest : List ℕ) → IsText text → Fits2 (length (encoded text)) → text_constant_at from (u2 (length (encoded text)) ++ (encoded text ++ rest)) ≡ Ok (Utf8 text, rest)
unfolding text_constant_at
text_again from text rest t l =
    let n : ℕ = length (encoded text) in
    let y : Read Const = Ok (Utf8 text, rest) in
    bind_at (u2_at (u2 n ++ (encoded text ++ rest))) (n, encoded text ++ rest) _ y (u2_again n (encoded text ++ rest) l)
    (bind_at (some_at n (encoded text ++ rest)) (encoded text, rest) _ y (some_again n (encoded text) rest refl)
    (ap (text_or from rest) ((decoded_iff (encoded text) text).1 (t, refl))))

indexed_again : (make : ℕ → Const) (n : ℕ) (rest : List ℕ) → Fits2 n → indexed_at make (u2 n ++ rest) ≡ Ok (make n, rest)
unfolding indexed_at
indexed_again make n rest l = bind_at (u2_at (u2 n ++ rest)) (n, rest) _ (Ok (make n, rest)) (u2_again n rest l) refl

paired_again : (make : ℕ → ℕ → Const) (a b : ℕ) (rest : List ℕ) → Fits2 a → Fits2 b → paired_at make (u2 a ++ (u2 b ++ rest)) ≡ Ok (make a b, rest)
unfolding paired_at two_at
paired_again make a b rest l m =
    let y : Read (ℕ × ℕ) = Ok ((a, b), rest) in
    ap (λ (r : Read (ℕ × ℕ)). r >>= λ two. Ok (make two.0.0 two.0.1, two.1))
    (bind_at (u2_at (u2 a ++ (u2 b ++ rest))) (a, u2 b ++ rest) (λ one. u2_at one.1 >>= λ other. Ok ((one.0, other.0), other.1)) y (u2_again a (u2 b ++ rest) l)
    (bind_at (u2_at (u2 b ++ rest)) (b, rest) (λ other. Ok ((a, other.0), other.1)) y (u2_again b rest m) refl))

below32 : (x : ℤ) → FitsSigned w32 x → cast_unsigned w32 x < 2 ^ 32
below32 x h = search (rules, ints)

below64 : (x : ℤ) → FitsSigned w64 x → cast_unsigned w64 x < 2 ^ 64
below64 x h = search (rules, ints)

int_again : (x : ℤ) (rest : List ℕ) → FitsSigned w32 x → int_at (to_be_bytes w32 (cast_unsigned w32 x) ++ rest) ≡ Ok (Int x, rest)
unfolding int_at
int_again x rest h =
    let n : ℕ = cast_unsigned w32 x in
    bind_at (u4_at (u4 n ++ rest)) (n, rest) _ (Ok (Int x, rest)) (u4_again n rest (below32 x h)) (ap (λ z. done (Int z) rest) (to_z-of_z w32 x h))

float_again : (n : ℕ) (rest : List ℕ) → n < 2 ^ 32 → float_at (u4 n ++ rest) ≡ Ok (Float n, rest)
unfolding float_at
float_again n rest l = bind_at (u4_at (u4 n ++ rest)) (n, rest) _ (Ok (Float n, rest)) (u4_again n rest l) refl

long_again : (x : ℤ) (rest : List ℕ) → FitsSigned w64 x → long_at (to_be_bytes w64 (cast_unsigned w64 x) ++ rest) ≡ Ok (Long x, rest)
unfolding long_at
long_again x rest h =
    let n : ℕ = cast_unsigned w64 x in
    bind_at (u8_at (to_be_bytes w64 n ++ rest)) (n, rest) _ (Ok (Long x, rest)) (u8_again n rest (below64 x h)) (ap (λ z. done (Long z) rest) (to_z-of_z w64 x h))

double_again : (n : ℕ) (rest : List ℕ) → n < 2 ^ 64 → double_at (to_be_bytes w64 n ++ rest) ≡ Ok (Double n, rest)
unfolding double_at
double_again n rest l = bind_at (u8_at (to_be_bytes w64 n ++ rest)) (n, rest) _ (Ok (Double n, rest)) (u8_again n rest l) refl

-- a tag, and what stands behind it
tag_again : (last : Bool) (tag : ℕ) (bytes rest : List ℕ) (c : Const) → (last ≡ true → (tag == 5 || tag == 6) ≡ false) → tagged_at tag (tag ∷ bytes) bytes ≡ Ok (c, rest)
    → constant_at last (tag ∷ bytes) ≡ Ok (c, rest)
unfolding constant_at u1_at
tag_again last tag bytes rest c h e =
    demand_at (not (last && (tag == 5 || tag == 6))) fault.Index (tag ∷ bytes) (λ _. tagged_at tag (tag ∷ bytes) bytes) (Ok (c, rest)) (may last (tag == 5 || tag == 6) h) e

pub constant_again : (last : Bool) (c : Const) (rest : List ℕ) → ConstantFits c → (last ≡ true → is_of kind.Double c ≡ false) → constant_at last (constant_bytes c ++ rest) ≡ Ok (c, rest)
unfolding tagged_at
constant_again last (Utf8 text) rest f h = tag_again last 1 _ rest (Utf8 text) (λ e. refl) (text_again (1 ∷ (u2 (length (encoded text)) ++ (encoded text ++ rest))) text rest f.0 f.1)
constant_again last (Int x) rest f h = tag_again last 3 _ rest (Int x) (λ e. refl) (int_again x rest f)
constant_again last (Float n) rest f h = tag_again last 4 _ rest (Float n) (λ e. refl) (float_again n rest f)
constant_again last (Long x) rest f h = tag_again last 5 _ rest (Long x) h (long_again x rest f)
constant_again last (Double n) rest f h = tag_again last 6 _ rest (Double n) h (double_again n rest f)
constant_again last (Class n) rest f h = tag_again last 7 _ rest (Class n) (λ e. refl) (indexed_again Class n rest f)
constant_again last (Text n) rest f h = tag_again last 8 _ rest (Text n) (λ e. refl) (indexed_again Text n rest f)
constant_again last (Field a b) rest f h = tag_again last 9 _ rest (Field a b) (λ e. refl) (paired_again Field a b rest f.0 f.1)
constant_again last (Method a b) rest f h = tag_again last 10 _ rest (Method a b) (λ e. refl) (paired_again Method a b rest f.0 f.1)
constant_again last (Interface a b) rest f h = tag_again last 11 _ rest (Interface a b) (λ e. refl) (paired_again Interface a b rest f.0 f.1)
constant_again last (NameType a b) rest f h = tag_again last 12 _ rest (NameType a b) (λ e. refl) (paired_again NameType a b rest f.0 f.1)
constant_again last Rest rest f h = absurd f

-- ---- the pool

last_alone : (c : Const) (cs : List Const) → (length (pool_of (c ∷ cs)) == 1) ≡ true → is_of kind.Double c ≡ false
last_alone c cs e = by (count_of c)
  where
    by : ((is_of kind.Double c ≡ true) × (length (entries_of c) ≡ 2)) ⊎ ((is_of kind.Double c ≡ false) × (length (entries_of c) ≡ 1)) → is_of kind.Double c ≡ false
    by (inl w) = absurd (omega (arith, eqb-true (length (pool_of (c ∷ cs))) 1 e, length-append (entries_of c) (pool_of cs), w.1))
    by (inr w) = w.0

some_entries : (c : Const) → 1 ≤ length (entries_of c)
some_entries c = by (count_of c)
  where
    by : ((is_of kind.Double c ≡ true) × (length (entries_of c) ≡ 2)) ⊎ ((is_of kind.Double c ≡ false) × (length (entries_of c) ≡ 1)) → 1 ≤ length (entries_of c)
    by (inl w) = omega (arith, w.1)
    by (inr w) = omega (arith, w.1)

pub entries_again : (cs : List Const) (rest : List ℕ) → AllByRecursion ConstantFits cs → entries_at (length (pool_of cs)) (flat_map constant_bytes cs ++ rest) ≡ Ok (pool_of cs, rest)
unfolding entries_at
entries_again [] rest f = refl
entries_again (c ∷ cs) rest f =
    let left : ℕ = length (pool_of (c ∷ cs)) in
    let after : List ℕ = flat_map constant_bytes cs ++ rest in
    let size : left ≡ length (entries_of c) + length (pool_of cs) = length-append (entries_of c) (pool_of cs) in
    let some = some_entries c in
    let less : left - length (entries_of c) ≡ length (pool_of cs) = omega arith in
    let y : Read (List Const) = Ok (pool_of (c ∷ cs), rest) in
    ap (entries_at left) (append_assoc (constant_bytes c) (flat_map constant_bytes cs) rest)
    ∙ entries_more left (constant_bytes c ++ after) (omega (arith, size, some))
    ∙ bind_at (constant_at (left == 1) (constant_bytes c ++ after)) (c, after) (λ one. with_front (entries_of one.0) (entries_at (left - length (entries_of one.0)) one.1)) y
    (constant_again (left == 1) c after f.0 (last_alone c cs))
    (ap (λ n. with_front (entries_of c) (entries_at n after)) less ∙ ap (with_front (entries_of c)) (entries_again cs rest f.1))

pub pool_again : (cs : List Const) (rest : List ℕ) → AllByRecursion ConstantFits cs → Fits2 (1 + length (pool_of cs))
    → pool_at (u2 (1 + length (pool_of cs)) ++ (flat_map constant_bytes cs ++ rest)) ≡ Ok (pool_of cs, rest)
unfolding pool_at
pool_again cs rest f l =
    let n : ℕ = 1 + length (pool_of cs) in
    let less : n - 1 ≡ length (pool_of cs) = omega arith in
    let after : List ℕ = flat_map constant_bytes cs ++ rest in
    bind_at (u2_at (u2 n ++ after)) (n, after) _ (Ok (pool_of cs, rest)) (u2_again n after l) (ap (λ k. entries_at k after) less ∙ entries_again cs rest f)

refers_again : (pool : List Const) (c : Const) (rest : List ℕ) → ConstantFits c → IsTrue (refers_well pool c) → references_at pool c (drop 1 (constant_bytes c ++ rest)) ≡ Ok tt
unfolding references_at
refers_again pool (Class n) rest f t = bind_at (index_at pool kind.Utf8 (u2 n ++ rest)) (n, rest) _ (Ok tt) (index_again pool kind.Utf8 n rest f t) refl
refers_again pool (Text n) rest f t = bind_at (index_at pool kind.Utf8 (u2 n ++ rest)) (n, rest) _ (Ok tt) (index_again pool kind.Utf8 n rest f t) refl
refers_again pool (Field a b) rest f t =
    let p = and_parts (names pool kind.Class a) (names pool kind.NameType b) t in
    bind_at (indexes_at pool kind.Class kind.NameType (u2 a ++ (u2 b ++ rest))) (tt, rest) _ (Ok tt) (indexes_again pool kind.Class kind.NameType a b rest f.0 f.1 p.0 p.1) refl
refers_again pool (Method a b) rest f t =
    let p = and_parts (names pool kind.Class a) (names pool kind.NameType b) t in
    bind_at (indexes_at pool kind.Class kind.NameType (u2 a ++ (u2 b ++ rest))) (tt, rest) _ (Ok tt) (indexes_again pool kind.Class kind.NameType a b rest f.0 f.1 p.0 p.1) refl
refers_again pool (Interface a b) rest f t =
    let p = and_parts (names pool kind.Class a) (names pool kind.NameType b) t in
    bind_at (indexes_at pool kind.Class kind.NameType (u2 a ++ (u2 b ++ rest))) (tt, rest) _ (Ok tt) (indexes_again pool kind.Class kind.NameType a b rest f.0 f.1 p.0 p.1) refl
refers_again pool (NameType a b) rest f t =
    let p = and_parts (names pool kind.Utf8 a) (names pool kind.Utf8 b) t in
    bind_at (indexes_at pool kind.Utf8 kind.Utf8 (u2 a ++ (u2 b ++ rest))) (tt, rest) _ (Ok tt) (indexes_again pool kind.Utf8 kind.Utf8 a b rest f.0 f.1 p.0 p.1) refl
refers_again pool (Utf8 text) rest f t = refl
refers_again pool (Int x) rest f t = refl
refers_again pool (Float bits) rest f t = refl
refers_again pool (Long x) rest f t = refl
refers_again pool (Double bits) rest f t = refl
refers_again pool Rest rest f t = refl

pub references_again : (pool cs : List Const) (rest : List ℕ) → AllByRecursion ConstantFits cs → AllByRecursion (λ c. IsTrue (refers_well pool c)) cs
    → all_references_at pool (pool_of cs) (flat_map constant_bytes cs ++ rest) ≡ Ok tt
unfolding all_references_at
references_again pool [] rest f t = refl
references_again pool (c ∷ cs) rest f t =
    let after : List ℕ = flat_map constant_bytes cs ++ rest in
    ap (all_references_at pool (pool_of (c ∷ cs))) (append_assoc (constant_bytes c) (flat_map constant_bytes cs) rest)
    ∙ entries_refer pool c (pool_of cs) (constant_bytes c ++ after)
    ∙ bind_at (references_at pool c (drop 1 (constant_bytes c ++ after))) tt (λ _. all_references_at pool (pool_of cs) (drop (length (constant_bytes c)) (constant_bytes c ++ after))) (Ok tt)
    (refers_again pool c after f.0 t.0)
    (ap (all_references_at pool (pool_of cs)) (drop_at (constant_bytes c) after (length (constant_bytes c)) refl) ∙ references_again pool cs rest f.1 t.1)
