-- Texts: what they spell, each alone, and where the first wrong unit is.
use Rattle.std.proofs.Common.{◌≡◌, refl, sym, ap, subst, ◌∙◌, ℕ, ◌+◌, ◌/◌, ◌%◌, ◌<◌, ◌≤◌, ◌⊎◌, inl, inr, List, [], ◌∷◌, ◌++◌, length, length-append, arith, append_assoc}
use Rattle.std.proofs.lemmas.Bool.{and_parts, and_from}
use Rattle.std.proofs.lemmas.List.{append-nil}
use Rattle.std.proofs.lemmas.List.Elements.{All-nil, All-cons, All-append}
use Rattle.std.proofs.Math.Utf8.{scalar, scalars}
use Rattle.std.specs.Char.{IsScalar}
use Rattle.std.specs.Int.{IsInRange}
use Rattle.std.specs.List.{All}
use Rattle.cf_mutf8.specs.ModifiedUtf8.{unit_bytes, character_bytes, encoded, IsText, Spells, NoCharacterBegins, IsBadUnitAt}
use Rattle.cf_mutf8.proofs.Units.{unit_form, UnitForm, one, two, three}
use Rattle.cf_mutf8.proofs.Pairs.{order, scalar_below, high_of, low_of, bytes_single, bytes_pair, character_same, character_length}

pub first_scalar : (c : ℕ) (cs : List ℕ) → IsText (c ∷ cs) → IsScalar c
first_scalar c cs t = (and_parts (scalar c) (scalars cs) t).0

pub rest_text : (c : ℕ) (cs : List ℕ) → IsText (c ∷ cs) → IsText cs
rest_text c cs t = (and_parts (scalar c) (scalars cs) t).1

pub text-append : (xs ys : List ℕ) → IsText xs → IsText ys → IsText (xs ++ ys)
text-append [] ys t u = u
text-append (x ∷ xs) ys t u = and_from (scalar x) (scalars (xs ++ ys)) (first_scalar x xs t) (text-append xs ys (rest_text x xs t) u)

pub encoded-append : (xs ys : List ℕ) → encoded (xs ++ ys) ≡ encoded xs ++ encoded ys
encoded-append [] ys = refl
encoded-append (x ∷ xs) ys = ap (λ l. character_bytes x ++ l) (encoded-append xs ys) ∙ sym (append_assoc (character_bytes x) (encoded xs) (encoded ys))

-- what a text's bytes go on with, behind its first character
later : (x : ℕ) (xs r : List ℕ) → encoded (x ∷ xs) ++ r ≡ character_bytes x ++ (encoded xs ++ r)
later x xs r = append_assoc (character_bytes x) (encoded xs) r

-- two texts with the same bytes up to where no character's begin
pub texts_same : (xs ys r s : List ℕ) → IsText xs → IsText ys → NoCharacterBegins r → NoCharacterBegins s
    → encoded xs ++ r ≡ encoded ys ++ s → xs ≡ ys
texts_same [] [] r s t u m n e = refl
texts_same [] (y ∷ ys) r s t u m n e = absurd (m y (first_scalar y ys u) (encoded ys ++ s) (e ∙ later y ys s))
texts_same (x ∷ xs) [] r s t u m n e = absurd (n x (first_scalar x xs t) (encoded xs ++ r) (sym e ∙ later x xs r))
texts_same (x ∷ xs) (y ∷ ys) r s t u m n e =
    let h = character_same x y (encoded xs ++ r) (encoded ys ++ s) (first_scalar x xs t) (first_scalar y ys u) (sym (later x xs r) ∙ e ∙ later y ys s) in
    let k = texts_same xs ys r s (rest_text x xs t) (rest_text y ys u) m n h.1 in
    (λ i. h.0 i ∷ k i)

pub none_at_end : NoCharacterBegins []
none_at_end c s rest e = omega (arith, ap length e ∙ length-append (character_bytes c) rest, character_length c)

pub encoded_one : (xs ys : List ℕ) → IsText xs → IsText ys → encoded xs ≡ encoded ys → xs ≡ ys
encoded_one xs ys t u e =
    texts_same xs ys [] [] t u none_at_end none_at_end (append-nil (encoded xs) ∙ e ∙ sym (append-nil (encoded ys)))

pub bad_one : (bytes : List ℕ) (i j : ℕ) → IsBadUnitAt bytes i → IsBadUnitAt bytes j → i ≡ j
bad_one bytes i j h k =
    let same = texts_same h.text k.text h.rest k.rest h.is_text k.is_text h.wrong k.wrong (sym h.splits ∙ k.splits) in
    sym h.before ∙ ap (λ t. length (encoded t)) same ∙ k.before

pub bad_apart : (bytes text : List ℕ) (i : ℕ) → IsBadUnitAt bytes i → ¬ (Spells bytes text)
bad_apart bytes text i h s =
    let same = texts_same h.text text h.rest [] h.is_text s.0 h.wrong none_at_end (sym h.splits ∙ s.1 ∙ sym (append-nil (encoded text))) in
    let sizes = ap length h.splits ∙ length-append (encoded h.text) h.rest in
    let all = ap length s.1 ∙ ap (λ t. length (encoded t)) (sym same) in
    let some = h.not_empty in
    omega arith

-- the values of the bytes
abbrev pub IsByte : ℕ → Type 0
IsByte = IsInRange 0x01 0xEF

bytes_within : (u : ℕ) → u < 0x10000 → All IsByte (unit_bytes u)
bytes_within u l = by (unit_form u)
  where
    last : All IsByte ((0x80 + u % 0x40) ∷ [])
    last = All-cons IsByte (0x80 + u % 0x40) [] (omega arith, omega arith) (All-nil IsByte)

    by : UnitForm u → All IsByte (unit_bytes u)
    by (one low high f) = subst (All IsByte) (sym f) (All-cons IsByte u [] (omega arith, omega arith) (All-nil IsByte))
    by (two low high f) = subst (All IsByte) (sym f) (All-cons IsByte (0xC0 + u / 0x40) ((0x80 + u % 0x40) ∷ []) (omega arith, omega arith) last)
    by (three low f) =
        let middle = All-cons IsByte (0x80 + u / 0x40 % 0x40) ((0x80 + u % 0x40) ∷ []) (omega arith, omega arith) last in
        subst (All IsByte) (sym f) (All-cons IsByte (0xE0 + u / 0x1000) ((0x80 + u / 0x40 % 0x40) ∷ (0x80 + u % 0x40) ∷ []) (omega arith, omega arith) middle)

pub character_within : (c : ℕ) → IsScalar c → All IsByte (character_bytes c)
character_within c s = by (order c 0x10000)
  where
    by : (c < 0x10000) ⊎ (0x10000 ≤ c) → All IsByte (character_bytes c)
    by (inl l) = subst (All IsByte) (sym (bytes_single c l)) (bytes_within c l)
    by (inr l) =
        let b = scalar_below c s in
        subst (All IsByte) (sym (bytes_pair c l)) (All-append IsByte (unit_bytes (high_of c)) (unit_bytes (low_of c)) (bytes_within (high_of c) (omega arith)) (bytes_within (low_of c) (omega arith)))

pub encoded_within : (text : List ℕ) → IsText text → All (IsInRange 0x01 0xEF) (encoded text)
encoded_within [] t = All-nil IsByte
encoded_within (c ∷ cs) t =
    All-append IsByte (character_bytes c) (encoded cs) (character_within c (first_scalar c cs t)) (encoded_within cs (rest_text c cs t))
