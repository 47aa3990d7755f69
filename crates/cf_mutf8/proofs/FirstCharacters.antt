-- The text that bytes spell is found from their first character on, and no other bytes spell one.
use Rattle.std.proofs.Common.{◌≡◌, refl, sym, ap, subst, ◌∙◌, ℕ, zero, suc, ◌+◌, ◌-◌, ◌*◌, ◌/◌, ◌%◌, ◌<◌, ◌≤◌, ◌⊎◌, inl, inr, ◌↔◌, List, [], ◌∷◌, ◌++◌, length, take, drop, length-append, arith, Option, None, Some}
use Rattle.std.specs.Prelude.{option_map, slice_index, Bool, true, false, cond}
use Rattle.std.specs.Char.{IsScalar}
use Rattle.std.specs.Str.{bytes_eq}
use Rattle.std.proofs.lemmas.Bool.{and_parts, and_from, cond-true, le-leb, lt-ltb}
use Rattle.std.proofs.lemmas.Bool.Decides.{nat_tests}
use Rattle.std.proofs.lemmas.List.{take_at, drop_at, take-append-drop}
use Rattle.std.proofs.lemmas.Option.{none-some}
use Rattle.std.proofs.lemmas.Slice.Eq.{bytes_eq-Decides}
use Rattle.std.proofs.Math.Utf8.{scalar, scalars}
use Rattle.cf_mutf8.specs.ModifiedUtf8.{unit_bytes, character_bytes, encoded, IsText, Spells}
use Rattle.cf_mutf8.specs.Decoded.{unit_of, first_unit, character_of, first_character, begins_with, decoded_within, decoded}
use Rattle.cf_mutf8.proofs.Units.{unit_form, UnitForm, one, two, three}
use Rattle.cf_mutf8.proofs.Pairs.{order, scalar_below, scalar_apart, high_of, low_of, front_single, front_pair, surrogate_length, character_length}
use Rattle.cf_mutf8.proofs.Texts.{first_scalar, rest_text}

unit_of_two : (u b c : ℕ) → u < 0x800 → b ≡ 0x80 + u % 0x40 → unit_of (0xC0 + u / 0x40) b c ≡ u
unit_of_two u b c l e = grind (arith, nat_tests)

unit_of_three : (u b c : ℕ) → 0x800 ≤ u → u < 0x10000 → b ≡ 0x80 + u / 0x40 % 0x40 → c ≡ 0x80 + u % 0x40
    → unit_of (0xE0 + u / 0x1000) b c ≡ u
unit_of_three u b c l m e f = grind (arith, nat_tests)

unit_of_one : (u b c : ℕ) → u < 0x80 → unit_of u b c ≡ u
unit_of_one u b c l = grind (arith, nat_tests)

-- the unit whose bytes come first
unit_first : (u : ℕ) (rest : List ℕ) → u < 0x10000 → first_unit (unit_bytes u ++ rest) ≡ u
unit_first u rest l = by (unit_form u)
  where
    by : UnitForm u → first_unit (unit_bytes u ++ rest) ≡ u
    by (one p q f) = ap (λ b. first_unit (b ++ rest)) f ∙ unit_of_one u (slice_index (u ∷ rest) 1) (slice_index (u ∷ rest) 2) q
    by (two p q f) = ap (λ b. first_unit (b ++ rest)) f ∙ unit_of_two u (0x80 + u % 0x40) (slice_index ((0xC0 + u / 0x40) ∷ (0x80 + u % 0x40) ∷ rest) 2) q refl
    by (three p f) = ap (λ b. first_unit (b ++ rest)) f ∙ unit_of_three u (0x80 + u / 0x40 % 0x40) (0x80 + u % 0x40) p l refl refl

alone : (u : ℕ) (after : List ℕ) → (u < 0xD800) ⊎ (0xDC00 ≤ u) → character_of u after ≡ u
alone u after h = grind (arith, nat_tests)

paired : (c : ℕ) (after : List ℕ) → 0x10000 ≤ c → c < 0x110000 → first_unit after ≡ low_of c → character_of (high_of c) after ≡ c
paired c after l m e =
    cond-true _ _ _ (and_from _ _ (le-leb 0xD800 (high_of c) (omega arith)) (lt-ltb (high_of c) 0xDC00 (omega arith)))
    ∙ ap (λ u. 0x10000 + (high_of c - 0xD800) * 0x400 + (u - 0xDC00)) e ∙ omega arith

-- the character whose bytes come first
character_first : (c : ℕ) (rest : List ℕ) → IsScalar c → first_character (character_bytes c ++ rest) ≡ c
character_first c rest s = by (order c 0x10000) (order c 0xD800)
  where
    by : (c < 0x10000) ⊎ (0x10000 ≤ c) → (c < 0xD800) ⊎ (0xD800 ≤ c) → first_character (character_bytes c ++ rest) ≡ c
    by (inl l) (inl m) =
        ap first_character (front_single c rest l) ∙ ap (λ u. character_of u (drop 3 (unit_bytes c ++ rest))) (unit_first c rest l) ∙ alone c (drop 3 (unit_bytes c ++ rest)) (inl m)
    by (inl l) (inr m) =
        ap first_character (front_single c rest l) ∙ ap (λ u. character_of u (drop 3 (unit_bytes c ++ rest))) (unit_first c rest l) ∙ alone c (drop 3 (unit_bytes c ++ rest)) (inr (omega (arith, scalar_apart c s m)))
    by (inr l) _ =
        let b = scalar_below c s in
        let after : List ℕ = unit_bytes (low_of c) ++ rest in
        let behind : drop 3 (unit_bytes (high_of c) ++ after) ≡ after = drop_at (unit_bytes (high_of c)) after 3 (surrogate_length (high_of c) (omega arith)) in
        ap first_character (front_pair c rest l)
        ∙ ap (λ u. character_of u (drop 3 (unit_bytes (high_of c) ++ after))) (unit_first (high_of c) after (omega arith))
        ∙ ap (character_of (high_of c)) behind
        ∙ paired c after l b (unit_first (low_of c) rest (omega arith))

begins : (c : ℕ) (rest : List ℕ) → IsScalar c → begins_with (character_bytes c ++ rest) c ≡ true
begins c rest s =
    and_from _ _ (and_from (scalar c) (scalars []) s refl)
    ((bytes_eq-Decides (take (length (character_bytes c)) (character_bytes c ++ rest)) (character_bytes c)).1
    (take_at (character_bytes c) rest (length (character_bytes c)) refl))

-- the bytes that begin with a character are its own and those behind
splits : (bytes : List ℕ) (c : ℕ) → begins_with bytes c ≡ true
    → IsScalar c × (bytes ≡ character_bytes c ++ drop (length (character_bytes c)) bytes)
splits bytes c e =
    let n : ℕ = length (character_bytes c) in
    let both = and_parts (scalars (c ∷ [])) (bytes_eq (take n bytes) (character_bytes c)) e in
    let same = (bytes_eq-Decides (take n bytes) (character_bytes c)).0 both.1 in (
      (and_parts (scalar c) (scalars []) both.0).0,
      sym (take-append-drop n bytes) ∙ ap (λ l. l ++ drop n bytes) same,
    )

-- a first character and a text behind it
found : (b : Bool) (c : ℕ) (o : Option (List ℕ)) (text : List ℕ)
    → cond b (option_map (λ l. c ∷ l) o) None ≡ Some text
    → (b ≡ true) × (more : List ℕ) × (o ≡ Some more) × (text ≡ c ∷ more)
found true c (Some more) text e = (refl, more, refl, cc)
found true c None text e = absurd (none-some text e)
found false c o text e = absurd (none-some text e)

sound : (n : ℕ) (bytes text : List ℕ) → decoded_within n bytes ≡ Some text → Spells bytes text
sound n [] text e = let f : text ≡ [] = cc in subst (Spells []) (sym f) (refl, refl)
sound zero (b ∷ bytes) text e = absurd (none-some text e)
sound (suc n) (b ∷ bytes) text e =
    let c : ℕ = first_character (b ∷ bytes) in
    let behind : List ℕ = drop (length (character_bytes c)) (b ∷ bytes) in
    let f = found (begins_with (b ∷ bytes) c) c (decoded_within n behind) text e in
    let s = splits (b ∷ bytes) c f.0 in
    let m = sound n behind f.1 f.2 in
    let all : Spells (b ∷ bytes) (c ∷ f.1) = (and_from (scalar c) (scalars f.1) s.0 m.0, s.1 ∙ ap (λ l. character_bytes c ++ l) m.1) in
    subst (Spells (b ∷ bytes)) (sym f.3) all

-- what is found in bytes that begin with a character
goes_on : (n c : ℕ) (rest : List ℕ) → IsScalar c
    → decoded_within (suc n) (character_bytes c ++ rest) ≡ option_map (λ l. c ∷ l) (decoded_within n rest)
goes_on n c rest s = by (character_bytes c ++ rest) refl
  where
    by : (bytes : List ℕ) → bytes ≡ character_bytes c ++ rest
        → decoded_within (suc n) bytes ≡ option_map (λ l. c ∷ l) (decoded_within n rest)
    by [] e = absurd (omega (arith, ap length e ∙ length-append (character_bytes c) rest, character_length c))
    by (b ∷ bytes) e =
        let first : first_character (b ∷ bytes) ≡ c = ap first_character e ∙ character_first c rest s in
        let step : ℕ → Option (List ℕ) = λ d. cond (begins_with (b ∷ bytes) d) (option_map (λ l. d ∷ l) (decoded_within n (drop (length (character_bytes d)) (b ∷ bytes)))) None in
        let here : begins_with (b ∷ bytes) c ≡ true = ap (λ l. begins_with l c) e ∙ begins c rest s in
        let behind = ap (drop (length (character_bytes c))) e ∙ drop_at (character_bytes c) rest (length (character_bytes c)) refl in
        ap step first ∙ cond-true _ _ _ here ∙ ap (λ l. option_map (λ l. c ∷ l) (decoded_within n l)) behind

complete : (n : ℕ) (text : List ℕ) → IsText text → length (encoded text) ≤ n → decoded_within n (encoded text) ≡ Some text
complete n [] t l = nothing n
  where
    nothing : (n : ℕ) → decoded_within n [] ≡ Some []
    nothing zero = refl
    nothing (suc n) = refl
complete zero (c ∷ cs) t l = absurd (omega (arith, length-append (character_bytes c) (encoded cs), character_length c))
complete (suc n) (c ∷ cs) t l =
    let within : length (encoded cs) ≤ n = omega (arith, length-append (character_bytes c) (encoded cs), character_length c) in
    goes_on n c (encoded cs) (first_scalar c cs t) ∙ ap (option_map (λ l. c ∷ l)) (complete n cs (rest_text c cs t) within)

pub decoded_iff : (bytes text : List ℕ) → (decoded bytes ≡ Some text) ↔ Spells bytes text
unfolding decoded
decoded_iff bytes text = (
  λ e. sound (length bytes) bytes text e,
  λ s. ap (λ b. decoded_within (length b) b) s.1 ∙ complete (length (encoded text)) text s.0 (omega arith),
)
