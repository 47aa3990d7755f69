-- Faults lie within the bytes, and codes are short.
use Rattle.std.proofs.Common.{◌≡◌, refl, ℕ, zero, suc, ◌+◌, ◌-◌, ◌≤◌, List, [], ◌∷◌, ◌++◌, length, drop, Option, None, Some, Result, Ok, Err, Bool, true, false, length-drop, length-take, arith}
use Rattle.std.specs.Prelude.{nat_lt, ◌==◌, ◌&&◌, ◌||◌, not, nat_le, if◌then◌else◌}
use Rattle.std.specs.List.{AllByRecursion, list_any}
use Rattle.std.proofs.lemmas.Bool.{cond_both, leb-true, and_parts}
use Rattle.cf_form.specs.Pool.{constant_bytes, is_of, names, text_at}
use Rattle.cf_form.specs.declared.constant.Const.{Const}
use Rattle.cf_form.specs.declared.constant.Const.TheVariants.{Utf8, Int, Float, Long, Double, Class, Text, Field, Method, Interface, NameType, Rest}
use Rattle.cf_form.specs.declared.kind.Kind.{Kind}
use Rattle.cf_form.specs.declared.kind.Kind.TheVariants as kind
use Rattle.cf_mutf8.specs.Decoded.{decoded}
use Rattle.cf_read.specs.declared.fault.Fault.{Fault}
use Rattle.cf_read.specs.declared.file_fault.FileKind.{FileKind}
use Rattle.cf_read.specs.declared.file_fault.FileKind.TheVariants as fault
use Rattle.cf_read.specs.Reading.{Read, ◌>>=◌, demand, some_at, u1_at, u2_at, u4_at, u8_at, text_or, text_constant_at, indexed_at, two_at, paired_at, int_at, float_at, long_at, double_at, tagged_at, constant_at, entries_at, pool_at, index_at, indexes_at, references_at, all_references_at, many_at, interfaces_at, info_at, passed_one_at, passed_at, attributes_at, row_at, Found, content_at, code_at, is_none, is_code_name, is_without_code, method_code_at, other_at, attribute_at, method_attributes_at, Key, key_of, same_key, MethodOutline, front_at, members_at, field_key, field_at, fields_at, method_at, method_key, methods_at}

-- what the kind of a fault tells of the bytes that are left, behind the version and before the file's end
abbrev pub Plain : FileKind → ℕ → Type 0
Plain fault.Magic left = ⊥
Plain fault.Version left = ⊥
Plain fault.Cut left = left ≡ 0
Plain fault.Rest left = ⊥
Plain _ left = Unit {0}

-- what was read has the property, or the fault has no more than n bytes left
abbrev pub Held : {A : Type 0} → (A → Type 0) → ℕ → Result A Fault → Type 0
Held P n (Ok x) = P x
Held P n (Err f) = (f.left ≤ n) × Plain f.kind f.left

pub held_bind : {A B : Type 0} (P : A → Type 0) (Q : B → Type 0) (n : ℕ) (r : Result A Fault) (g : A → Result B Fault)
    → Held P n r → ((x : A) → P x → Held Q n (g x)) → Held Q n (r >>= g)
held_bind P Q n (Ok x) g h k = k x h
held_bind P Q n (Err f) g h k = h

-- and no more than n bytes are behind it
abbrev pub With : {A : Type 0} → (A → Type 0) → ℕ → A × List ℕ → Type 0
With P n x = P x.0 × (length x.1 ≤ n)

abbrev pub Any : {A : Type 0} → A → Type 0
Any x = Unit {0}

pub demanded : (n : ℕ) (b : Bool) (k : FileKind) (from : List ℕ) → length from ≤ n → Plain k (length from) → Held (λ _. b ≡ true) n (demand b k from)
demanded n true k from l p = refl
demanded n false k from l p = (l, p)

pub some_held : (n count : ℕ) (bytes : List ℕ) → length bytes ≤ n → Held (With (λ xs. length xs ≤ count) n) n (some_at count bytes)
unfolding some_at
some_held n count bytes l =
    cond_both (nat_lt (length bytes) count) _ _ (Held (With (λ xs. length xs ≤ count) n) n) (λ e. (omega arith, refl)) (λ e. (omega (arith, length-take count bytes), omega (arith, length-drop count bytes)))

u1_held : (n : ℕ) (bytes : List ℕ) → length bytes ≤ n → Held (With Any n) n (u1_at bytes)
unfolding u1_at
u1_held n [] l = (omega arith, refl)
u1_held n (b ∷ bytes) l = (tt, omega arith)

pub u2_held : (n : ℕ) (bytes : List ℕ) → length bytes ≤ n → Held (With Any n) n (u2_at bytes)
unfolding u2_at
u2_held n bytes l = held_bind _ (With Any n) n (some_at 2 bytes) _ (some_held n 2 bytes l) (λ x p. (tt, p.1))

u4_held : (n : ℕ) (bytes : List ℕ) → length bytes ≤ n → Held (With Any n) n (u4_at bytes)
unfolding u4_at
u4_held n bytes l = held_bind _ (With Any n) n (some_at 4 bytes) _ (some_held n 4 bytes l) (λ x p. (tt, p.1))

u8_held : (n : ℕ) (bytes : List ℕ) → length bytes ≤ n → Held (With Any n) n (u8_at bytes)
unfolding u8_at
u8_held n bytes l = held_bind _ (With Any n) n (some_at 8 bytes) _ (some_held n 8 bytes l) (λ x p. (tt, p.1))

held_weaker : {A : Type 0} (P Q : A → Type 0) (n : ℕ) (r : Result A Fault) → ((x : A) → P x → Q x) → Held P n r → Held Q n r
held_weaker P Q n (Ok x) f h = f x h
held_weaker P Q n (Err e) f h = h

chosen : {A : Type 0} (P : A → Type 0) (n : ℕ) (b : Bool) (x y : Result A Fault) → Held P n x → Held P n y → Held P n (if b then x else y)
chosen P n true x y h k = h
chosen P n false x y h k = k

text_or_held : (n : ℕ) (from rest : List ℕ) (o : Option (List ℕ)) → length from ≤ n → length rest ≤ n → Held (With Any n) n (text_or from rest o)
text_or_held n from rest None l m = (l, tt)
text_or_held n from rest (Some text) l m = (tt, m)

text_constant_held : (n : ℕ) (from bytes : List ℕ) → length from ≤ n → length bytes ≤ n → Held (With Any n) n (text_constant_at from bytes)
unfolding text_constant_at
text_constant_held n from bytes m l =
    held_bind _ (With Any n) n (u2_at bytes) _ (u2_held n bytes l) (λ count p.
    held_bind _ (With Any n) n (some_at count.0 count.1) _ (some_held n count.0 count.1 p.1) (λ text q. text_or_held n from text.1 (decoded text.0) m q.1))

indexed_held : (make : ℕ → Const) (n : ℕ) (bytes : List ℕ) → length bytes ≤ n → Held (With Any n) n (indexed_at make bytes)
unfolding indexed_at
indexed_held make n bytes l = held_bind _ (With Any n) n (u2_at bytes) _ (u2_held n bytes l) (λ x p. (tt, p.1))

two_held : (n : ℕ) (bytes : List ℕ) → length bytes ≤ n → Held (With Any n) n (two_at bytes)
unfolding two_at
two_held n bytes l =
    held_bind _ (With Any n) n (u2_at bytes) _ (u2_held n bytes l) (λ x p.
    held_bind _ (With Any n) n (u2_at x.1) _ (u2_held n x.1 p.1) (λ y q. (tt, q.1)))

paired_held : (make : ℕ → ℕ → Const) (n : ℕ) (bytes : List ℕ) → length bytes ≤ n → Held (With Any n) n (paired_at make bytes)
unfolding paired_at
paired_held make n bytes l = held_bind _ (With Any n) n (two_at bytes) _ (two_held n bytes l) (λ x p. (tt, p.1))

int_held : (n : ℕ) (bytes : List ℕ) → length bytes ≤ n → Held (With Any n) n (int_at bytes)
unfolding int_at
int_held n bytes l = held_bind _ (With Any n) n (u4_at bytes) _ (u4_held n bytes l) (λ x p. (tt, p.1))

float_held : (n : ℕ) (bytes : List ℕ) → length bytes ≤ n → Held (With Any n) n (float_at bytes)
unfolding float_at
float_held n bytes l = held_bind _ (With Any n) n (u4_at bytes) _ (u4_held n bytes l) (λ x p. (tt, p.1))

long_held : (n : ℕ) (bytes : List ℕ) → length bytes ≤ n → Held (With Any n) n (long_at bytes)
unfolding long_at
long_held n bytes l = held_bind _ (With Any n) n (u8_at bytes) _ (u8_held n bytes l) (λ x p. (tt, p.1))

double_held : (n : ℕ) (bytes : List ℕ) → length bytes ≤ n → Held (With Any n) n (double_at bytes)
unfolding double_at
double_held n bytes l = held_bind _ (With Any n) n (u8_at bytes) _ (u8_held n bytes l) (λ x p. (tt, p.1))

tagged_held : (tag n : ℕ) (from bytes : List ℕ) → length from ≤ n → length bytes ≤ n → Held (With Any n) n (tagged_at tag from bytes)
unfolding tagged_at
tagged_held tag n from bytes m l =
    chosen (With Any n) n (tag == 1) _ _ (text_constant_held n from bytes m l)
    (chosen (With Any n) n (tag == 3) _ _ (int_held n bytes l)
    (chosen (With Any n) n (tag == 4) _ _ (float_held n bytes l)
    (chosen (With Any n) n (tag == 5) _ _ (long_held n bytes l)
    (chosen (With Any n) n (tag == 6) _ _ (double_held n bytes l)
    (chosen (With Any n) n (tag == 7) _ _ (indexed_held Class n bytes l)
    (chosen (With Any n) n (tag == 8) _ _ (indexed_held Text n bytes l)
    (chosen (With Any n) n (tag == 9) _ _ (paired_held Field n bytes l)
    (chosen (With Any n) n (tag == 10) _ _ (paired_held Method n bytes l)
    (chosen (With Any n) n (tag == 11) _ _ (paired_held Interface n bytes l)
    (chosen (With Any n) n (tag == 12) _ _ (paired_held NameType n bytes l) (m, tt)))))))))))

constant_held : (last : Bool) (n : ℕ) (bytes : List ℕ) → length bytes ≤ n → Held (With Any n) n (constant_at last bytes)
unfolding constant_at
constant_held last n bytes l =
    held_bind _ (With Any n) n (u1_at bytes) _ (u1_held n bytes l) (λ tag p.
    held_bind _ (With Any n) n (demand _ fault.Index bytes) _ (demanded n _ fault.Index bytes l tt) (λ y q. tagged_held tag.0 n bytes tag.1 l p.1))

entries_held : (count n : ℕ) (bytes : List ℕ) → length bytes ≤ n → Held (With Any n) n (entries_at count bytes)
unfolding entries_at
entries_held zero n bytes l = (tt, l)
entries_held (suc zero) n bytes l = held_bind _ (With Any n) n (constant_at true bytes) _ (constant_held true n bytes l) (λ x p. (tt, p.1))
entries_held (suc (suc count)) n bytes l =
    held_bind _ (With Any n) n (constant_at false bytes) _ (constant_held false n bytes l) (λ one p.
    held_bind _ (With Any n) n (if is_of kind.Double one.0 then entries_at count one.1 else entries_at (suc count) one.1) _
    (chosen (With Any n) n (is_of kind.Double one.0) _ _ (entries_held count n one.1 p.1) (entries_held (suc count) n one.1 p.1)) (λ x q. (tt, q.1)))

pub pool_held : (n : ℕ) (bytes : List ℕ) → length bytes ≤ n → Held (With Any n) n (pool_at bytes)
unfolding pool_at
pool_held n bytes l =
    held_bind _ (With Any n) n (u2_at bytes) _ (u2_held n bytes l) (λ count p. entries_held (count.0 - 1) n count.1 p.1)

pub index_held : (pool : List Const) (k : Kind) (n : ℕ) (bytes : List ℕ) → length bytes ≤ n → Held (With Any n) n (index_at pool k bytes)
unfolding index_at
index_held pool k n bytes l =
    held_bind _ (With Any n) n (u2_at bytes) _ (u2_held n bytes l) (λ index p.
    held_bind _ (With Any n) n (demand (names pool k index.0) fault.Index bytes) _ (demanded n _ fault.Index bytes l tt) (λ y q. p))

indexes_held : (pool : List Const) (k m : Kind) (n : ℕ) (bytes : List ℕ) → length bytes ≤ n → Held (With Any n) n (indexes_at pool k m bytes)
unfolding indexes_at
indexes_held pool k m n bytes l =
    held_bind _ (With Any n) n (index_at pool k bytes) _ (index_held pool k n bytes l) (λ x p.
    held_bind _ (With Any n) n (index_at pool m x.1) _ (index_held pool m n x.1 p.1) (λ y q. (tt, q.1)))

references_held : (pool : List Const) (c : Const) (n : ℕ) (bytes : List ℕ) → length bytes ≤ n → Held Any n (references_at pool c bytes)
unfolding references_at
references_held pool (Class name) n bytes l = held_bind _ Any n (index_at pool kind.Utf8 bytes) _ (index_held pool kind.Utf8 n bytes l) (λ x p. tt)
references_held pool (Text text) n bytes l = held_bind _ Any n (index_at pool kind.Utf8 bytes) _ (index_held pool kind.Utf8 n bytes l) (λ x p. tt)
references_held pool (Field class member) n bytes l = held_bind _ Any n (indexes_at pool kind.Class kind.NameType bytes) _ (indexes_held pool kind.Class kind.NameType n bytes l) (λ x p. tt)
references_held pool (Method class member) n bytes l = held_bind _ Any n (indexes_at pool kind.Class kind.NameType bytes) _ (indexes_held pool kind.Class kind.NameType n bytes l) (λ x p. tt)
references_held pool (Interface class member) n bytes l = held_bind _ Any n (indexes_at pool kind.Class kind.NameType bytes) _ (indexes_held pool kind.Class kind.NameType n bytes l) (λ x p. tt)
references_held pool (NameType name descriptor) n bytes l = held_bind _ Any n (indexes_at pool kind.Utf8 kind.Utf8 bytes) _ (indexes_held pool kind.Utf8 kind.Utf8 n bytes l) (λ x p. tt)
references_held pool (Utf8 text) n bytes l = tt
references_held pool (Int x) n bytes l = tt
references_held pool (Float bits) n bytes l = tt
references_held pool (Long x) n bytes l = tt
references_held pool (Double bits) n bytes l = tt
references_held pool Rest n bytes l = tt

pub all_references_held : (pool cs : List Const) (n : ℕ) (bytes : List ℕ) → length bytes ≤ n → Held Any n (all_references_at pool cs bytes)
unfolding all_references_at
all_references_held pool [] n bytes l = tt
all_references_held pool (c ∷ cs) n bytes l =
    held_bind _ Any n (references_at pool c (drop 1 bytes)) _ (references_held pool c n (drop 1 bytes) (omega (arith, length-drop 1 bytes)))
    (λ x p. all_references_held pool cs n (drop (length (constant_bytes c)) bytes) (omega (arith, length-drop (length (constant_bytes c)) bytes)))

many_held : {A : Type 0} (one : List ℕ → Read A) (n : ℕ) → ((bytes : List ℕ) → length bytes ≤ n → Held (With Any n) n (one bytes))
    → (count : ℕ) (bytes : List ℕ) → length bytes ≤ n → Held (With Any n) n (many_at one count bytes)
unfolding many_at
many_held one n h zero bytes l = (tt, l)
many_held one n h (suc count) bytes l =
    held_bind _ (With Any n) n (one bytes) _ (h bytes l) (λ first p.
    held_bind _ (With Any n) n (many_at one count first.1) _ (many_held one n h count first.1 p.1) (λ others q. (tt, q.1)))

pub interfaces_held : (pool : List Const) (n : ℕ) (bytes : List ℕ) → length bytes ≤ n → Held (With Any n) n (interfaces_at pool bytes)
unfolding interfaces_at
interfaces_held pool n bytes l =
    held_bind _ (With Any n) n (u2_at bytes) _ (u2_held n bytes l) (λ count p. many_held (index_at pool kind.Class) n (index_held pool kind.Class n) count.0 count.1 p.1)

info_held : (n : ℕ) (bytes : List ℕ) → length bytes ≤ n → Held (With Any n) n (info_at bytes)
unfolding info_at
info_held n bytes l =
    held_bind _ (With Any n) n (u4_at bytes) _ (u4_held n bytes l) (λ count p.
    held_weaker _ (With Any n) n (some_at count.0 count.1) (λ x q. (tt, q.1)) (some_held n count.0 count.1 p.1))

passed_one_held : (n : ℕ) (bytes : List ℕ) → length bytes ≤ n → Held (With Any n) n (passed_one_at bytes)
unfolding passed_one_at
passed_one_held n bytes l =
    held_bind _ (With Any n) n (u2_at bytes) _ (u2_held n bytes l) (λ name p.
    held_bind _ (With Any n) n (info_at name.1) _ (info_held n name.1 p.1) (λ info q. (tt, q.1)))

passed_held : (count n : ℕ) (bytes : List ℕ) → length bytes ≤ n → Held (With Any n) n (passed_at count bytes)
unfolding passed_at
passed_held zero n bytes l = (tt, l)
passed_held (suc count) n bytes l =
    held_bind _ (With Any n) n (passed_one_at bytes) _ (passed_one_held n bytes l) (λ first p. passed_held count n first.1 p.1)

pub attributes_held : (n : ℕ) (bytes : List ℕ) → length bytes ≤ n → Held (With Any n) n (attributes_at bytes)
unfolding attributes_at
attributes_held n bytes l =
    held_bind _ (With Any n) n (u2_at bytes) _ (u2_held n bytes l) (λ count p. passed_held count.0 n count.1 p.1)

row_held : (n : ℕ) (bytes : List ℕ) → length bytes ≤ n → Held (With Any n) n (row_at bytes)
unfolding row_at
row_held n bytes l =
    held_bind _ (With Any n) n (u2_at bytes) _ (u2_held n bytes l) (λ a p.
    held_bind _ (With Any n) n (u2_at a.1) _ (u2_held n a.1 p.1) (λ b q.
    held_bind _ (With Any n) n (u2_at b.1) _ (u2_held n b.1 q.1) (λ c r.
    held_bind _ (With Any n) n (u2_at c.1) _ (u2_held n c.1 r.1) (λ d s. (tt, s.1)))))

-- a code that was found is short, and lies within the bytes
pub record FoundFits (n : ℕ) (found : Found) : Type 0 where
  pub short : length found.code ≤ 65535
  pub code : length found.code_from ≤ n
  pub rows : length found.rows_from ≤ n

content_held : (n : ℕ) (bytes : List ℕ) → length bytes ≤ n → Held (With (FoundFits n) n) n (content_at bytes)
unfolding content_at
content_held n bytes l =
    let Q = With (FoundFits n) n in
    held_bind _ Q n (u2_at bytes) _ (u2_held n bytes l) (λ a p.
    held_bind _ Q n (u2_at a.1) _ (u2_held n a.1 p.1) (λ b q.
    held_bind _ Q n (u4_at b.1) _ (u4_held n b.1 q.1) (λ count r.
    held_bind _ Q n (demand (nat_le 1 count.0 && nat_le count.0 65535) fault.Code b.1) _ (demanded n _ fault.Code b.1 q.1 tt) (λ y few.
    held_bind _ Q n (some_at count.0 count.1) _ (some_held n count.0 count.1 r.1) (λ code s.
    held_bind _ Q n (u2_at code.1) _ (u2_held n code.1 s.1) (λ many t.
    held_bind _ Q n (many_at row_at many.0 many.1) _ (many_held row_at n (row_held n) many.0 many.1 t.1) (λ rows u.
    held_bind _ Q n (attributes_at rows.1) _ (attributes_held n rows.1 u.1) (λ attributes v. (
      record {
        short = let both = and_parts (nat_le 1 count.0) (nat_le count.0 65535) few in let most = leb-true count.0 65535 both.1 in omega (arith, s.0, most);
        code = r.1;
        rows = t.1;
      },
      v.1,
    )))))))))

code_held : (n : ℕ) (bytes : List ℕ) → length bytes ≤ n → Held (With (FoundFits n) n) n (code_at bytes)
unfolding code_at
code_held n bytes l =
    let Q = With (FoundFits n) n in
    held_bind _ Q n (u4_at bytes) _ (u4_held n bytes l) (λ count p.
    held_bind _ Q n (content_at count.1) _ (content_held n count.1 p.1) (λ found q.
    held_bind _ Q n (demand (count.0 + length found.1 == length count.1) fault.Code bytes) _ (demanded n _ fault.Code bytes l tt) (λ y r. q)))

abbrev pub OptFits : ℕ → Option Found → Type 0
OptFits n None = Unit {0}
OptFits n (Some found) = FoundFits n found

method_code_held : (n access : ℕ) (before : Option Found) (from bytes : List ℕ) → length from ≤ n → length bytes ≤ n
    → Held (With (OptFits n) n) n (method_code_at access before from bytes)
unfolding method_code_at
method_code_held n access before from bytes m l =
    let Q = With (OptFits n) n in
    held_bind _ Q n (demand (not (is_without_code access) && is_none before) fault.Code from) _ (demanded n (not (is_without_code access) && is_none before) fault.Code from m tt) (λ y r.
    held_bind _ Q n (code_at bytes) _ (code_held n bytes l) (λ found p. p))

other_held : (n : ℕ) (before : Option Found) (bytes : List ℕ) → length bytes ≤ n → OptFits n before → Held (With (OptFits n) n) n (other_at before bytes)
unfolding other_at
other_held n before bytes l h = held_bind _ (With (OptFits n) n) n (info_at bytes) _ (info_held n bytes l) (λ info p. (h, p.1))

attribute_held : (n : ℕ) (pool : List Const) (access : ℕ) (before : Option Found) (bytes : List ℕ) → length bytes ≤ n → OptFits n before
    → Held (With (OptFits n) n) n (attribute_at pool access before bytes)
unfolding attribute_at
attribute_held n pool access before bytes l h =
    let Q = With (OptFits n) n in
    held_bind _ Q n (u2_at bytes) _ (u2_held n bytes l) (λ name p.
    chosen Q n (is_code_name (text_at pool name.0)) _ _ (method_code_held n access before bytes name.1 l p.1) (other_held n before name.1 p.1 h))

method_attributes_held : (count n : ℕ) (pool : List Const) (access : ℕ) (before : Option Found) (bytes : List ℕ) → length bytes ≤ n → OptFits n before
    → Held (With (OptFits n) n) n (method_attributes_at count pool access before bytes)
unfolding method_attributes_at
method_attributes_held zero n pool access before bytes l h = (h, l)
method_attributes_held (suc count) n pool access before bytes l h =
    held_bind _ (With (OptFits n) n) n (attribute_at pool access before bytes) _ (attribute_held n pool access before bytes l h)
    (λ first p. method_attributes_held count n pool access first.0 first.1 p.1 p.0)

front_held : (n : ℕ) (pool : List Const) (keys : List Key) (bytes : List ℕ) → length bytes ≤ n → Held (With Any n) n (front_at pool keys bytes)
unfolding front_at
front_held n pool keys bytes l =
    held_bind _ (With Any n) n (u2_at bytes) _ (u2_held n bytes l) (λ access p.
    held_bind _ (With Any n) n (index_at pool kind.Utf8 access.1) _ (index_held pool kind.Utf8 n access.1 p.1) (λ name q.
    held_bind _ (With Any n) n (index_at pool kind.Utf8 name.1) _ (index_held pool kind.Utf8 n name.1 q.1) (λ descriptor r.
    held_bind _ (With Any n) n (demand (not (list_any (same_key (key_of pool name.0 descriptor.0)) keys)) fault.Double bytes) _ (demanded n (not (list_any (same_key (key_of pool name.0 descriptor.0)) keys)) fault.Double bytes l tt) (λ y s. (tt, r.1)))))

members_held : {A : Type 0} (P : A → Type 0) (one : List Key → List ℕ → Read A) (key : A → Key) (n : ℕ)
    → ((keys : List Key) (bytes : List ℕ) → length bytes ≤ n → Held (With P n) n (one keys bytes))
    → (count : ℕ) (keys : List Key) (bytes : List ℕ) → length bytes ≤ n → Held (With (AllByRecursion P) n) n (members_at one key count keys bytes)
unfolding members_at
members_held P one key n h zero keys bytes l = (tt, l)
members_held P one key n h (suc count) keys bytes l =
    let Q = With (AllByRecursion P) n in
    held_bind _ Q n (one keys bytes) _ (h keys bytes l) (λ first p.
    held_bind _ Q n (members_at one key count (keys ++ key first.0 ∷ []) first.1) _ (members_held P one key n h count (keys ++ key first.0 ∷ []) first.1 p.1)
    (λ others q. ((p.0, q.0), q.1)))

field_held : (n : ℕ) (pool : List Const) (keys : List Key) (bytes : List ℕ) → length bytes ≤ n → Held (With Any n) n (field_at pool keys bytes)
unfolding field_at
field_held n pool keys bytes l =
    held_bind _ (With Any n) n (front_at pool keys bytes) _ (front_held n pool keys bytes l) (λ front p.
    held_bind _ (With Any n) n (attributes_at front.1) _ (attributes_held n front.1 p.1) (λ attributes q. (tt, q.1)))

pub fields_held : (n : ℕ) (pool : List Const) (bytes : List ℕ) → length bytes ≤ n → Held (With (AllByRecursion Any) n) n (fields_at pool bytes)
unfolding fields_at
fields_held n pool bytes l =
    held_bind _ (With (AllByRecursion Any) n) n (u2_at bytes) _ (u2_held n bytes l)
    (λ count p. members_held Any (field_at pool) (field_key pool) n (field_held n pool) count.0 [] count.1 p.1)

abbrev pub MethodFits : ℕ → MethodOutline → Type 0
MethodFits n m = OptFits n m.code

method_held : (n : ℕ) (pool : List Const) (keys : List Key) (bytes : List ℕ) → length bytes ≤ n → Held (With (MethodFits n) n) n (method_at pool keys bytes)
unfolding method_at
method_held n pool keys bytes l =
    let Q = With (MethodFits n) n in
    held_bind _ Q n (front_at pool keys bytes) _ (front_held n pool keys bytes l) (λ front p.
    held_bind _ Q n (u2_at front.1) _ (u2_held n front.1 p.1) (λ count q.
    held_bind _ Q n (method_attributes_at count.0 pool front.0.access None count.1) _ (method_attributes_held count.0 n pool front.0.access None count.1 q.1 tt) (λ code r.
    held_bind _ Q n (demand (is_without_code front.0.access || not (is_none code.0)) fault.Code bytes) _ (demanded n (is_without_code front.0.access || not (is_none code.0)) fault.Code bytes l tt) (λ y s. r))))

pub methods_held : (n : ℕ) (pool : List Const) (bytes : List ℕ) → length bytes ≤ n → Held (With (AllByRecursion (MethodFits n)) n) n (methods_at pool bytes)
unfolding methods_at
methods_held n pool bytes l =
    held_bind _ (With (AllByRecursion (MethodFits n)) n) n (u2_at bytes) _ (u2_held n bytes l)
    (λ count p. members_held (MethodFits n) (method_at pool) (method_key pool) n (method_held n pool) count.0 [] count.1 p.1)
