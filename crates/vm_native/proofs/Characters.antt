-- Names of classes by their characters: one more at the end.
use Rattle.std.proofs.Common.{◌≡◌, refl, sym, ap, ◌∙◌, ℕ, Bool, true, false, ◌==◌, ◌||◌, List, [], ◌∷◌, ◌++◌, arith, length, String, string_len, string_bytes}
use Rattle.std.proofs.lemmas.Bool.{and_from}
use Rattle.std.proofs.lemmas.List.{append-nil}
use Rattle.std.proofs.lemmas.Str.{chars-append, chars-encodes, chars-nil}
use Rattle.std.proofs.Math.Utf8.{scalar, scalars}
use Rattle.std.specs.Char.{IsScalar, encode_utf8}
use Rattle.std.specs.List.{list_any}
use Rattle.std.specs.Prelude.{if◌then◌else◌, codes}
use Rattle.std.specs.Str.{chars, IsUtf8}
use Rattle.vm_state.specs.Heaps.{last_part, without_dollar}

-- the characters of a text that was added to
pub chars_push : (text : List ℕ) (c : ℕ) → IsUtf8 text → IsScalar c → chars (text ++ encode_utf8 c) ≡ chars text ++ c ∷ []
chars_push text c u s =
    chars-append text (encode_utf8 c) u
    ∙ ap (λ l. chars text ++ l) (ap chars (sym (append-nil (encode_utf8 c))) ∙ chars-encodes (c ∷ []) (and_from (scalar c) (scalars []) s refl))

pub no_chars : chars [] ≡ []
no_chars = chars-nil

or_true : (b : Bool) → (b || true) ≡ true
or_true true = refl
or_true false = refl

any_slash : (cs : List ℕ) → list_any (λ d. d == 47) (cs ++ 47 ∷ []) ≡ true
any_slash [] = refl
any_slash (x ∷ cs) = ap (λ b. (x == 47) || b) (any_slash cs) ∙ or_true (x == 47)

slash_ends : (cs : List ℕ) → last_part (cs ++ 47 ∷ []) ≡ []
slash_ends [] = refl
slash_ends (x ∷ cs) = ap (λ (b : Bool). if b then last_part (cs ++ 47 ∷ []) else x ∷ cs ++ 47 ∷ []) (any_slash (x ∷ cs)) ∙ slash_ends cs

pub last_part_slash : (cs : List ℕ) (c : ℕ) → c ≡ 47 → last_part (cs ++ c ∷ []) ≡ []
last_part_slash cs c e = ap (λ d. last_part (cs ++ d ∷ [])) e ∙ slash_ends cs

any_push : (cs : List ℕ) (c : ℕ) → (c == 47) ≡ false → list_any (λ d. d == 47) (cs ++ c ∷ []) ≡ list_any (λ d. d == 47) cs
any_push [] c e = ap (λ b. b || false) e
any_push (x ∷ cs) c e = ap (λ b. (x == 47) || b) (any_push cs c e)

chosen : (p q r s d : List ℕ) (b : Bool) → p ≡ q ++ d → r ≡ s ++ d → (if b then p else r) ≡ (if b then q else s) ++ d
chosen p q r s d true e f = e
chosen p q r s d false e f = f

pub last_part_push : (cs : List ℕ) (c : ℕ) → (c == 47) ≡ false → last_part (cs ++ c ∷ []) ≡ last_part cs ++ c ∷ []
last_part_push [] c e = ap (λ (b : Bool). if b || false then [] else c ∷ []) e
last_part_push (x ∷ cs) c e =
    ap (λ (b : Bool). if b then last_part (cs ++ c ∷ []) else x ∷ cs ++ c ∷ []) (any_push (x ∷ cs) c e)
    ∙ chosen (last_part (cs ++ c ∷ [])) (last_part cs) (x ∷ cs ++ c ∷ []) (x ∷ cs) (c ∷ []) (list_any (λ d. d == 47) (x ∷ cs)) (last_part_push cs c e) refl

pulled : (x : ℕ) (p q : List ℕ) (b : Bool) → x ∷ (if b then p else q) ≡ (if b then x ∷ p else x ∷ q)
pulled x p q true = refl
pulled x p q false = refl

pub without_dollar_push : (cs : List ℕ) (c : ℕ) → without_dollar (cs ++ c ∷ []) ≡ (if c == 36 then cs else cs ++ c ∷ [])
without_dollar_push [] c = refl
without_dollar_push (x ∷ []) c = pulled x [] (c ∷ []) (c == 36)
without_dollar_push (x ∷ y ∷ cs) c = ap (λ l. x ∷ l) (without_dollar_push (y ∷ cs) c) ∙ pulled x (y ∷ cs) (y ∷ cs ++ c ∷ []) (c == 36)

-- a text of no bytes has no characters
no_bytes : (bytes : List ℕ) → length bytes ≡ 0 → chars bytes ≡ []
no_bytes [] e = chars-nil
no_bytes (b ∷ bytes) e = absurd (omega (arith, e))

pub empty_text : {Z : Type 0} (s : String Z) → string_len s ≡ 0 → chars (string_bytes s) ≡ []
empty_text s e = no_bytes (string_bytes s) (sym s.bytes.ok.0 ∙ e)

pub null_chars : chars (codes "null") ≡ codes "null"
unfolding chars
null_chars = refl

pub true_chars : chars (codes "true") ≡ codes "true"
unfolding chars
true_chars = refl

pub false_chars : chars (codes "false") ≡ codes "false"
unfolding chars
false_chars = refl

pub unit_chars : chars (codes "()") ≡ codes "()"
unfolding chars
unit_chars = refl

pub colon_chars : chars (codes ": ") ≡ codes ": "
unfolding chars
colon_chars = refl

pub object_chars : chars (codes "Ljava/lang/Object;") ≡ codes "Ljava/lang/Object;"
unfolding chars
object_chars = refl
