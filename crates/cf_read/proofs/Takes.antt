-- What is read is spelled so: numbers and constants.
use Rattle.std.proofs.Common.{◌≡◌, refl, sym, ap, ◌∙◌, subst, ℕ, suc, ◌+◌, ◌^◌, ◌<◌, ◌≤◌, inl, inr, List, [], ◌∷◌, ◌++◌, length, get_or, take, drop, Option, None, Some, Result, Ok, Err, Bool, true, false, append_assoc, rules, arith}
use Rattle.std.specs.Prelude.{nat_lt, ◌==◌, ◌&&◌, ◌||◌, not, IsTrue, FitsSigned, if◌then◌else◌}
use Rattle.std.specs.Int.{w16, w32, w64, from_be_bytes, to_be_bytes, cast_signed, cast_unsigned}
use Rattle.std.proofs.lemmas.Bool.{cases_lt, ltb-false, eqb-true}
use Rattle.std.proofs.lemmas.Int.{ints, of_z-to_z}
use Rattle.std.proofs.lemmas.List.{take-append-drop, length-take, get_or-drop, get_or-take, get_or_past}
use Rattle.std.proofs.lemmas.Nat.{be_bytes_2, be_bytes_4, be_bytes_8}
use Rattle.cf_mutf8.specs.ModifiedUtf8.{encoded}
use Rattle.cf_mutf8.specs.Decoded.{decoded}
use Rattle.cf_mutf8.proofs.FirstCharacters.{decoded_iff}
use Rattle.cf_form.specs.ClassFiles.{is_version}
use Rattle.cf_form.specs.Pool.{u2, u4, Fits2, constant_bytes, ConstantFits, is_of}
use Rattle.cf_form.specs.declared.constant.Const.{Const}
use Rattle.cf_form.specs.declared.constant.Const.TheVariants.{Class, Text, Field, Method, Interface, NameType}
use Rattle.cf_form.specs.declared.kind.Kind.TheVariants as kind
use Rattle.cf_read.specs.declared.fault.Fault.{Fault}
use Rattle.cf_read.specs.declared.file_fault.FileKind.{FileKind}
use Rattle.cf_read.specs.declared.file_fault.FileKind.TheVariants as fault
use Rattle.cf_read.specs.Reading.{Read, ◌>>=◌, demand, some_at, u1_at, u2_at, u4_at, u8_at, magic_at, version_at, text_or, text_constant_at, indexed_at, two_at, paired_at, int_at, float_at, long_at, double_at, tagged_at, constant_at}

-- what was read has the property
abbrev pub Given : {A : Type 0} → (A → Type 0) → Result A Fault → Type 0
Given P (Ok x) = P x
Given P (Err f) = Unit {0}

pub given_bind : {A B : Type 0} (P : A → Type 0) (Q : B → Type 0) (r : Result A Fault) (g : A → Result B Fault)
    → Given P r → ((x : A) → P x → Given Q (g x)) → Given Q (r >>= g)
given_bind P Q (Ok x) g h k = k x h
given_bind P Q (Err f) g h k = tt

pub given_cond : {A : Type 0} (P : A → Type 0) (b : Bool) (x y : Result A Fault) → (b ≡ true → Given P x) → (b ≡ false → Given P y) → Given P (if b then x else y)
given_cond P true x y h k = h refl
given_cond P false x y h k = k refl

pub given_demand : {B : Type 0} (Q : B → Type 0) (b : Bool) (k : FileKind) (from : List ℕ) (g : Unit {0} → Result B Fault) → (b ≡ true → Given Q (g tt)) → Given Q (demand b k from >>= g)
given_demand Q true k from g h = h refl
given_demand Q false k from g h = tt

-- ---- bytes

abbrev pub IsBytes : List ℕ → Type 0
IsBytes bytes = (i : ℕ) → get_or bytes i 0 < 256

pub IsBytes-drop : (n : ℕ) (bytes : List ℕ) → IsBytes bytes → IsBytes (drop n bytes)
IsBytes-drop n bytes h i = rw get_or-drop (h (n + i))

pub IsBytes-take : (n : ℕ) (bytes : List ℕ) → IsBytes bytes → IsBytes (take n bytes)
IsBytes-take n bytes h i =
    elim (cases_lt i n) [
      | inl lt ↦ rw (get_or-take n bytes i 0 lt) (h i)
      | inr le ↦ rw (get_or_past (take n bytes) i 0 (omega (arith, length-take n bytes))) (omega arith)
    ]

-- what a reader took from the front
pub record Takes (bytes text rest : List ℕ) : Type 0 where
  pub parts : bytes ≡ text ++ rest
  pub fits : IsBytes rest

pub then_takes : (a x b y c : List ℕ) → Takes a x b → Takes b y c → Takes a (x ++ y) c
then_takes a x b y c p q = record { parts = p.parts ∙ ap (λ (t : List ℕ). x ++ t) q.parts ∙ sym (append_assoc x y c); fits = q.fits }

pub takes_text : (a x y c : List ℕ) → x ≡ y → Takes a x c → Takes a y c
takes_text a x y c e t = subst (λ z. Takes a z c) e t

abbrev pub SomeTaken : ℕ → List ℕ → List ℕ × List ℕ → Type 0
SomeTaken n bytes x = Takes bytes x.0 x.1 × (length x.0 ≡ n) × IsBytes x.0

pub some_takes : (n : ℕ) (bytes : List ℕ) → IsBytes bytes → Given (SomeTaken n bytes) (some_at n bytes)
unfolding some_at
some_takes n bytes h =
    given_cond (SomeTaken n bytes) (nat_lt (length bytes) n) _ _ (λ e. tt) (λ e.
    let long : n ≤ length bytes = ltb-false _ _ e in (
      record { parts = sym (take-append-drop n bytes); fits = IsBytes-drop n bytes h },
      omega (arith, length-take n bytes),
      IsBytes-take n bytes h,
    ))

-- numbers of two, four and eight bytes, below a limit
abbrev pub NumberTaken : (ℕ → List ℕ) → ℕ → List ℕ → ℕ × List ℕ → Type 0
NumberTaken spell limit bytes x = Takes bytes (spell x.0) x.1 × (x.0 < limit)

pub u1_takes : (bytes : List ℕ) → IsBytes bytes → Given (NumberTaken (λ n. n ∷ []) 256 bytes) (u1_at bytes)
unfolding u1_at
u1_takes [] h = tt
u1_takes (b ∷ bytes) h = (record { parts = refl; fits = λ i. h (suc i) }, h 0)

pub u2_takes : (bytes : List ℕ) → IsBytes bytes → Given (NumberTaken u2 (2 ^ 16) bytes) (u2_at bytes)
unfolding u2_at
u2_takes bytes h =
    given_bind _ (NumberTaken u2 (2 ^ 16) bytes) (some_at 2 bytes) _ (some_takes 2 bytes h) (λ x p. (
      takes_text bytes x.0 (u2 (from_be_bytes w16 x.0)) x.1 (sym (be_bytes_2 x.0 _ p.1 p.2 refl)) p.0,
      omega (arith, p.2 0, p.2 1),
    ))

pub u4_takes : (bytes : List ℕ) → IsBytes bytes → Given (NumberTaken u4 (2 ^ 32) bytes) (u4_at bytes)
unfolding u4_at
u4_takes bytes h =
    given_bind _ (NumberTaken u4 (2 ^ 32) bytes) (some_at 4 bytes) _ (some_takes 4 bytes h) (λ x p. (
      takes_text bytes x.0 (u4 (from_be_bytes w32 x.0)) x.1 (sym (be_bytes_4 x.0 _ p.1 p.2 refl)) p.0,
      omega (arith, p.2 0, p.2 1, p.2 2, p.2 3),
    ))

pub u8_takes : (bytes : List ℕ) → IsBytes bytes → Given (NumberTaken (to_be_bytes w64) (2 ^ 64) bytes) (u8_at bytes)
unfolding u8_at
u8_takes bytes h =
    given_bind _ (NumberTaken (to_be_bytes w64) (2 ^ 64) bytes) (some_at 8 bytes) _ (some_takes 8 bytes h) (λ x p. (
      takes_text bytes x.0 (to_be_bytes w64 (from_be_bytes w64 x.0)) x.1 (sym (be_bytes_8 x.0 _ p.1 p.2 refl)) p.0,
      omega (arith, p.2 0, p.2 1, p.2 2, p.2 3, p.2 4, p.2 5, p.2 6, p.2 7),
    ))

pub magic_takes : (bytes : List ℕ) → IsBytes bytes → Given (λ x. Takes bytes (0xCA ∷ 0xFE ∷ 0xBA ∷ 0xBE ∷ []) x.1) (magic_at bytes)
unfolding magic_at
magic_takes bytes h =
    let Q = λ (x : Unit {0} × List ℕ). Takes bytes (0xCA ∷ 0xFE ∷ 0xBA ∷ 0xBE ∷ []) x.1 in
    given_bind _ Q (u4_at bytes) _ (u4_takes bytes h) (λ x p.
    given_demand Q (x.0 == 0xCAFEBABE) fault.Magic bytes _ (λ e. subst (λ n. Takes bytes (u4 n) x.1) (eqb-true x.0 0xCAFEBABE e) p.0))

abbrev pub VersionTaken : List ℕ → (ℕ × ℕ) × List ℕ → Type 0
VersionTaken bytes x = Takes bytes (u2 x.0.0 ++ u2 x.0.1) x.1 × Fits2 x.0.0 × Fits2 x.0.1 × IsTrue (is_version x.0.1)

pub version_takes : (bytes : List ℕ) → IsBytes bytes → Given (VersionTaken bytes) (version_at bytes)
unfolding version_at
version_takes bytes h =
    let Q = VersionTaken bytes in
    given_bind _ Q (u2_at bytes) _ (u2_takes bytes h) (λ a p.
    given_bind _ Q (u2_at a.1) _ (u2_takes a.1 p.0.fits) (λ b q.
    given_demand Q (is_version b.0) fault.Version a.1 _ (λ e.
    (then_takes bytes (u2 a.0) a.1 (u2 b.0) b.1 p.0 q.0, p.1, q.1, e))))

-- ---- constants

-- a constant that was read behind its tag
abbrev pub Tagged : ℕ → List ℕ → Const × List ℕ → Type 0
Tagged tag bytes x = Takes (tag ∷ bytes) (constant_bytes x.0) x.1 × ConstantFits x.0 × (is_of kind.Double x.0 ≡ (tag == 5 || tag == 6))

behind_tag : (tag : ℕ) (bytes text rest : List ℕ) → Takes bytes text rest → Takes (tag ∷ bytes) (tag ∷ text) rest
behind_tag tag bytes text rest t = record { parts = ap (λ l. tag ∷ l) t.parts; fits = t.fits }

text_takes : (from bytes : List ℕ) → IsBytes bytes → Given (Tagged 1 bytes) (text_constant_at from bytes)
unfolding text_constant_at
text_takes from bytes h =
    given_bind _ (Tagged 1 bytes) (u2_at bytes) _ (u2_takes bytes h) (λ count p.
    given_bind _ (Tagged 1 bytes) (some_at count.0 count.1) _ (some_takes count.0 count.1 p.0.fits) (λ text q. by count p text q (decoded text.0) refl))
  where
    by : (count : ℕ × List ℕ) → NumberTaken u2 (2 ^ 16) bytes count → (text : List ℕ × List ℕ) → SomeTaken count.0 count.1 text
        → (o : Option (List ℕ)) → decoded text.0 ≡ o → Given (Tagged 1 bytes) (text_or from text.1 o)
    by count p text q None e = tt
    by count p text q (Some t) e =
        let s = (decoded_iff text.0 t).0 e in
        let size : count.0 ≡ length (encoded t) = sym q.1 ∙ ap length s.1 in
        let both = then_takes bytes (u2 count.0) count.1 text.0 text.1 p.0 q.0 in
        let spelled : u2 count.0 ++ text.0 ≡ u2 (length (encoded t)) ++ encoded t = ap (λ n. u2 n ++ text.0) size ∙ ap (λ l. u2 (length (encoded t)) ++ l) s.1 in
        (behind_tag 1 bytes (u2 (length (encoded t)) ++ encoded t) text.1 (takes_text bytes _ _ text.1 spelled both), (s.0, omega (arith, size, p.1)), refl)

pub two_takes : (bytes : List ℕ) → IsBytes bytes → Given (λ x. Takes bytes (u2 x.0.0 ++ u2 x.0.1) x.1 × (Fits2 x.0.0 × Fits2 x.0.1)) (two_at bytes)
unfolding two_at
two_takes bytes h =
    let Q = λ (x : (ℕ × ℕ) × List ℕ). Takes bytes (u2 x.0.0 ++ u2 x.0.1) x.1 × (Fits2 x.0.0 × Fits2 x.0.1) in
    given_bind _ Q (u2_at bytes) _ (u2_takes bytes h) (λ a p.
    given_bind _ Q (u2_at a.1) _ (u2_takes a.1 p.0.fits) (λ b q. (then_takes bytes (u2 a.0) a.1 (u2 b.0) b.1 p.0 q.0, (p.1, q.1))))

signed_fits32 : (n : ℕ) → n < 2 ^ 32 → FitsSigned w32 (cast_signed w32 n)
signed_fits32 n l = search (rules, ints)

signed_fits64 : (n : ℕ) → n < 2 ^ 64 → FitsSigned w64 (cast_signed w64 n)
signed_fits64 n l = search (rules, ints)

int_takes : (bytes : List ℕ) → IsBytes bytes → Given (Tagged 3 bytes) (int_at bytes)
unfolding int_at
int_takes bytes h =
    given_bind _ (Tagged 3 bytes) (u4_at bytes) _ (u4_takes bytes h) (λ n p.
    let same : u4 n.0 ≡ to_be_bytes w32 (cast_unsigned w32 (cast_signed w32 n.0)) = ap (to_be_bytes w32) (sym (of_z-to_z w32 n.0 p.1)) in
    (behind_tag 3 bytes _ n.1 (takes_text bytes _ _ n.1 same p.0), signed_fits32 n.0 p.1, refl))

float_takes : (bytes : List ℕ) → IsBytes bytes → Given (Tagged 4 bytes) (float_at bytes)
unfolding float_at
float_takes bytes h = given_bind _ (Tagged 4 bytes) (u4_at bytes) _ (u4_takes bytes h) (λ n p. (behind_tag 4 bytes (u4 n.0) n.1 p.0, p.1, refl))

long_takes : (bytes : List ℕ) → IsBytes bytes → Given (Tagged 5 bytes) (long_at bytes)
unfolding long_at
long_takes bytes h =
    given_bind _ (Tagged 5 bytes) (u8_at bytes) _ (u8_takes bytes h) (λ n p.
    let same : to_be_bytes w64 n.0 ≡ to_be_bytes w64 (cast_unsigned w64 (cast_signed w64 n.0)) = ap (to_be_bytes w64) (sym (of_z-to_z w64 n.0 p.1)) in
    (behind_tag 5 bytes _ n.1 (takes_text bytes _ _ n.1 same p.0), signed_fits64 n.0 p.1, refl))

double_takes : (bytes : List ℕ) → IsBytes bytes → Given (Tagged 6 bytes) (double_at bytes)
unfolding double_at
double_takes bytes h =
    given_bind _ (Tagged 6 bytes) (u8_at bytes) _ (u8_takes bytes h) (λ n p. (behind_tag 6 bytes (to_be_bytes w64 n.0) n.1 p.0, p.1, refl))

class_takes : (bytes : List ℕ) → IsBytes bytes → Given (Tagged 7 bytes) (indexed_at Class bytes)
unfolding indexed_at
class_takes bytes h = given_bind _ (Tagged 7 bytes) (u2_at bytes) _ (u2_takes bytes h) (λ n p. (behind_tag 7 bytes (u2 n.0) n.1 p.0, p.1, refl))

string_takes : (bytes : List ℕ) → IsBytes bytes → Given (Tagged 8 bytes) (indexed_at Text bytes)
unfolding indexed_at
string_takes bytes h = given_bind _ (Tagged 8 bytes) (u2_at bytes) _ (u2_takes bytes h) (λ n p. (behind_tag 8 bytes (u2 n.0) n.1 p.0, p.1, refl))

field_takes : (bytes : List ℕ) → IsBytes bytes → Given (Tagged 9 bytes) (paired_at Field bytes)
unfolding paired_at
field_takes bytes h = given_bind _ (Tagged 9 bytes) (two_at bytes) _ (two_takes bytes h) (λ n p. (behind_tag 9 bytes (u2 n.0.0 ++ u2 n.0.1) n.1 p.0, p.1, refl))

method_takes : (bytes : List ℕ) → IsBytes bytes → Given (Tagged 10 bytes) (paired_at Method bytes)
unfolding paired_at
method_takes bytes h = given_bind _ (Tagged 10 bytes) (two_at bytes) _ (two_takes bytes h) (λ n p. (behind_tag 10 bytes (u2 n.0.0 ++ u2 n.0.1) n.1 p.0, p.1, refl))

interface_takes : (bytes : List ℕ) → IsBytes bytes → Given (Tagged 11 bytes) (paired_at Interface bytes)
unfolding paired_at
interface_takes bytes h = given_bind _ (Tagged 11 bytes) (two_at bytes) _ (two_takes bytes h) (λ n p. (behind_tag 11 bytes (u2 n.0.0 ++ u2 n.0.1) n.1 p.0, p.1, refl))

name_type_takes : (bytes : List ℕ) → IsBytes bytes → Given (Tagged 12 bytes) (paired_at NameType bytes)
unfolding paired_at
name_type_takes bytes h = given_bind _ (Tagged 12 bytes) (two_at bytes) _ (two_takes bytes h) (λ n p. (behind_tag 12 bytes (u2 n.0.0 ++ u2 n.0.1) n.1 p.0, p.1, refl))

of_tag : (tag k : ℕ) (bytes : List ℕ) (r : Read Const) → Given (Tagged k bytes) r → tag == k ≡ true → Given (Tagged tag bytes) r
of_tag tag k bytes r h e = subst (λ t. Given (Tagged t bytes) r) (sym (eqb-true tag k e)) h

tagged_takes : (tag : ℕ) (from bytes : List ℕ) → IsBytes bytes → Given (Tagged tag bytes) (tagged_at tag from bytes)
unfolding tagged_at
tagged_takes tag from bytes h =
    let Q = Tagged tag bytes in
    given_cond Q (tag == 1) _ _ (of_tag tag 1 bytes _ (text_takes from bytes h)) (λ _.
    given_cond Q (tag == 3) _ _ (of_tag tag 3 bytes _ (int_takes bytes h)) (λ _.
    given_cond Q (tag == 4) _ _ (of_tag tag 4 bytes _ (float_takes bytes h)) (λ _.
    given_cond Q (tag == 5) _ _ (of_tag tag 5 bytes _ (long_takes bytes h)) (λ _.
    given_cond Q (tag == 6) _ _ (of_tag tag 6 bytes _ (double_takes bytes h)) (λ _.
    given_cond Q (tag == 7) _ _ (of_tag tag 7 bytes _ (class_takes bytes h)) (λ _.
    given_cond Q (tag == 8) _ _ (of_tag tag 8 bytes _ (string_takes bytes h)) (λ _.
    given_cond Q (tag == 9) _ _ (of_tag tag 9 bytes _ (field_takes bytes h)) (λ _.
    given_cond Q (tag == 10) _ _ (of_tag tag 10 bytes _ (method_takes bytes h)) (λ _.
    given_cond Q (tag == 11) _ _ (of_tag tag 11 bytes _ (interface_takes bytes h)) (λ _.
    given_cond Q (tag == 12) _ _ (of_tag tag 12 bytes _ (name_type_takes bytes h)) (λ _. tt)))))))))))

abbrev pub ConstantTaken : Bool → List ℕ → Const × List ℕ → Type 0
ConstantTaken last bytes x = Takes bytes (constant_bytes x.0) x.1 × ConstantFits x.0 × (last ≡ true → is_of kind.Double x.0 ≡ false)

alone : (last wide double : Bool) → not (last && wide) ≡ true → double ≡ wide → last ≡ true → double ≡ false
alone true true double e f g = absurd cc
alone true false double e f g = f
alone false wide double e f g = absurd cc

pub constant_takes : (last : Bool) (bytes : List ℕ) → IsBytes bytes → Given (ConstantTaken last bytes) (constant_at last bytes)
unfolding constant_at
constant_takes last bytes h =
    let Q = ConstantTaken last bytes in
    given_bind _ Q (u1_at bytes) _ (u1_takes bytes h) (λ tag p.
    given_demand Q (not (last && (tag.0 == 5 || tag.0 == 6))) fault.Index bytes _ (λ e.
    moved tag p e (tagged_at tag.0 bytes tag.1) (tagged_takes tag.0 bytes tag.1 p.0.fits)))
  where
    moved : (tag : ℕ × List ℕ) → NumberTaken (λ n. n ∷ []) 256 bytes tag → not (last && (tag.0 == 5 || tag.0 == 6)) ≡ true
        → (r : Read Const) → Given (Tagged tag.0 tag.1) r → Given (ConstantTaken last bytes) r
    moved tag p e (Err f) t = tt
    moved tag p e (Ok x) t = (
      record { parts = p.0.parts ∙ t.0.parts; fits = t.0.fits },
      t.1,
      alone last (tag.0 == 5 || tag.0 == 6) (is_of kind.Double x.0) e t.2,
    )
