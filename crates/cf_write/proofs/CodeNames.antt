-- The first entry that is the text `Code`.
use Rattle.std.proofs.Common.{◌≡◌, ◌≢◌, ℕ, zero, suc, ◌+◌, ◌<◌, true, false, List, [], ◌∷◌, Some, refl, sym, ap, ◌∙◌, arith}
use Rattle.std.specs.List.{slice_get}
use Rattle.std.specs.Prelude.{encode_utf8_all}
use Rattle.std.specs.Str.{bytes_eq, chars}
use Rattle.cf_form.specs.Pool.{text_by}
use Rattle.cf_form.specs.ClassFiles.{code_name, IsFirstCodeName}
use Rattle.cf_form.specs.declared.constant.Const.{Const}
use Rattle.cf_form.specs.declared.constant.Const.TheVariants.{Utf8, Int, Float, Long, Double, Class, Text, Field, Method, Interface, NameType, Rest}
use Rattle.std.proofs.lemmas.Slice.Eq.{bytes_eq-Decides}
use Rattle.std.proofs.lemmas.Bool.Decides.{same_from_decides}
use Rattle.std.proofs.lemmas.Bool.{false_from_ne_true}
use Rattle.cf_write.specs.Spelling.{is_code_name, first_code_from, first_code}

is_name : (c : Const) → text_by (Some c) ≡ Some code_name → is_code_name c ≡ true
is_name (Utf8 text) e = let same : text ≡ code_name = cc in (bytes_eq-Decides text code_name).1 same
is_name (Int x) e = absurd cc
is_name (Float x) e = absurd cc
is_name (Long x) e = absurd cc
is_name (Double x) e = absurd cc
is_name (Class x) e = absurd cc
is_name (Text x) e = absurd cc
is_name (Field x y) e = absurd cc
is_name (Method x y) e = absurd cc
is_name (Interface x y) e = absurd cc
is_name (NameType x y) e = absurd cc
is_name Rest e = absurd cc

is_none : (c : Const) → text_by (Some c) ≢ Some code_name → is_code_name c ≡ false
is_none (Utf8 text) e = false_from_ne_true (bytes_eq text code_name) (λ b. e (ap Some ((bytes_eq-Decides text code_name).0 b)))
is_none (Int x) e = refl
is_none (Float x) e = refl
is_none (Long x) e = refl
is_none (Double x) e = refl
is_none (Class x) e = refl
is_none (Text x) e = refl
is_none (Field x y) e = refl
is_none (Method x y) e = refl
is_none (Interface x y) e = refl
is_none (NameType x y) e = refl
is_none Rest e = refl

found_from : (at k : ℕ) (pool : List Const) → text_by (slice_get pool k) ≡ Some code_name
    → ((i : ℕ) → i < k → text_by (slice_get pool i) ≢ Some code_name) → first_code_from at pool ≡ at + k
found_from at k [] e h = absurd cc
found_from at zero (c ∷ cs) e h = rw (is_name c e) (omega arith)
found_from at (suc k) (c ∷ cs) e h =
    let later = found_from (at + 1) k cs e (λ i l. h (suc i) (omega arith)) in
    rw (is_none c (h 0 (omega arith))) (omega arith)

pub first_found : (pool : List Const) (n : ℕ) → IsFirstCodeName pool n → n ≡ first_code pool
first_found pool zero h = absurd cc
first_found pool (suc k) h =
    let found = found_from 1 k pool h.0 (λ i l. h.1 (suc i) (omega arith)) in omega arith

-- the test on a text's bytes
pub name_test : (bytes text : List ℕ) → bytes ≡ encode_utf8_all text → chars bytes ≡ text
    → bytes_eq bytes code_name ≡ bytes_eq text code_name
unfolding chars lib.Utf8.encode
name_test bytes text p q =
    let d = bytes_eq-Decides bytes code_name in
    let back : chars code_name ≡ code_name = refl in
    same_from_decides {P = text ≡ code_name} _ _ (λ t. sym q ∙ ap chars (d.0 t) ∙ back, λ e. d.1 (p ∙ ap encode_utf8_all e)) (bytes_eq-Decides text code_name)
