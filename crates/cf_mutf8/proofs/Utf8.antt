-- Modified UTF-8 beside UTF-8: where they agree, and how much longer it is.
use Rattle.std.proofs.Common.{◌≡◌, refl, sym, ap, subst, ◌∙◌, ℕ, ◌+◌, ◌*◌, ◌/◌, ◌<◌, ◌≤◌, ◌⊎◌, inl, inr, List, [], ◌∷◌, ◌++◌, length, length-append, get_or, arith}
use Rattle.std.proofs.lemmas.Bool.Decides.{nat_tests}
use Rattle.std.proofs.lemmas.List.Elements.{All-nil, All-cons, All-head, All-tail, All-from_get_or}
use Rattle.std.proofs.lemmas.Str.{encodes-chars, scalars-chars}
use Rattle.std.proofs.lemmas.List.Sums.{sum_by-cons, sum_by-append}
use Rattle.std.proofs.Math.Utf8.{next}
use Rattle.std.specs.Char.{IsScalar, encode_utf8}
use Rattle.std.specs.Int.{IsInRange}
use Rattle.std.specs.List.{All, sum_by}
use Rattle.std.specs.Str.{encode_utf8_all, chars, IsUtf8}
use Rattle.cf_mutf8.specs.ModifiedUtf8.{unit_bytes, character_bytes, encoded, IsText}
use Rattle.cf_mutf8.specs.Share.{share}
use Rattle.cf_mutf8.proofs.Units.{unit_one, unit_two, unit_three}
use Rattle.cf_mutf8.proofs.Pairs.{order, bytes_single, bytes_pair, high_of, low_of, surrogate_length, scalar_below}
use Rattle.cf_mutf8.proofs.Texts.{first_scalar, rest_text, character_within}

one : (c : ℕ) → c < 128 → encode_utf8 c ≡ c ∷ []
unfolding encode_utf8
one c h = grind (arith, nat_tests)

two : (c : ℕ) → 128 ≤ c → c < 2048 → encode_utf8 c ≡ (192 + c / 64) ∷ next c ∷ []
unfolding encode_utf8
two c l h = grind (arith, nat_tests)

three : (c : ℕ) → 2048 ≤ c → c < 65536 → encode_utf8 c ≡ (224 + c / 4096) ∷ next (c / 64) ∷ next c ∷ []
unfolding encode_utf8
three c l h = grind (arith, nat_tests)

four : (c : ℕ) → 65536 ≤ c → encode_utf8 c ≡ (240 + c / 262144) ∷ next (c / 4096) ∷ next (c / 64) ∷ next c ∷ []
unfolding encode_utf8
four c l = grind (arith, nat_tests)

-- the forms of a character in both
data Forms (c : ℕ) : Type 0 where
  null : c ≡ 0 → Forms c
  same : (c < 0x10000) → character_bytes c ≡ encode_utf8 c → Forms c
  pair : 0x10000 ≤ c → Forms c

forms : (c : ℕ) → Forms c
forms c = by (order c 1) (order c 0x80) (order c 0x800) (order c 0x10000)
  where
    by : (c < 1) ⊎ (1 ≤ c) → (c < 0x80) ⊎ (0x80 ≤ c) → (c < 0x800) ⊎ (0x800 ≤ c) → (c < 0x10000) ⊎ (0x10000 ≤ c) → Forms c
    by (inl z) _ _ _ = null (omega arith)
    by (inr p) (inl l) _ _ = same (omega arith) (bytes_single c (omega arith) ∙ unit_one c (omega arith) l ∙ sym (one c l))
    by (inr _) (inr p) (inl l) _ = same (omega arith) (bytes_single c (omega arith) ∙ unit_two c (inr p) l ∙ sym (two c p l))
    by (inr _) (inr _) (inr p) (inl l) = same l (bytes_single c l ∙ unit_three c p ∙ sym (three c p l))
    by (inr _) (inr _) (inr _) (inr p) = pair p

-- a text whose UTF-8 has no byte that differs
abbrev IsShared : ℕ → Type 0
IsShared = IsInRange 0x01 0xEF

split : (xs ys : List ℕ) → All IsShared (xs ++ ys) → All IsShared xs × All IsShared ys
split [] ys a = (All-nil IsShared, a)
split (x ∷ xs) ys a =
    let rest = split xs ys (All-tail IsShared x (xs ++ ys) a) in
    (All-cons IsShared x xs (All-head IsShared x (xs ++ ys) a) rest.0, rest.1)

character_unchanged : (c : ℕ) → All IsShared (encode_utf8 c) → character_bytes c ≡ encode_utf8 c
character_unchanged c a = by (forms c)
  where
    first : (xs : List ℕ) (x : ℕ) → encode_utf8 c ≡ x ∷ xs → IsShared x
    first xs x e = All-head IsShared x xs (subst (All IsShared) e a)

    by : Forms c → character_bytes c ≡ encode_utf8 c
    by (null z) = let h = first [] c (one c (omega arith)) in absurd (omega arith)
    by (same l e) = e
    by (pair l) = let h = first (next (c / 4096) ∷ next (c / 64) ∷ next c ∷ []) (240 + c / 262144) (four c l) in absurd (omega arith)

pub unchanged : (cs : List ℕ) → All (IsInRange 0x01 0xEF) (encode_utf8_all cs) → encoded cs ≡ encode_utf8_all cs
unchanged [] a = refl
unchanged (c ∷ cs) a =
    let parts = split (encode_utf8 c) (encode_utf8_all cs) a in
    let here = character_unchanged c parts.0 in
    let later = unchanged cs parts.1 in
    (λ i. here i ++ later i)

pub text_unchanged : (bytes : List ℕ) → IsUtf8 bytes → ((k : ℕ) → k < length bytes → IsInRange 0x01 0xEF (get_or bytes k 0))
    → encoded (chars bytes) ≡ bytes
text_unchanged bytes u h =
    let e = encodes-chars bytes u in
    unchanged (chars bytes) (subst (All IsShared) (sym e) (All-from_get_or IsShared bytes 0 h)) ∙ e

-- the shares of the bytes of a character, and of a text
share_zero : share 0 ≡ 2
share_zero = refl

share_one : (b : ℕ) → 0 < b → b < 0xF0 → share b ≡ 1
share_one b l h = grind (arith, nat_tests)

share_three : (b : ℕ) → 0xF0 ≤ b → share b ≡ 3
share_three b l = grind (arith, nat_tests)

shares : (x : ℕ) (xs : List ℕ) (n m : ℕ) → share x ≡ n → sum_by share xs ≡ m → sum_by share (x ∷ xs) ≡ n + m
shares x xs n m p q = sum_by-cons share x xs ∙ (λ i. p i + q i)

shared_sum : (xs : List ℕ) → All IsShared xs → sum_by share xs ≡ length xs
shared_sum [] a = refl
shared_sum (x ∷ xs) a =
    let h = All-head IsShared x xs a in
    let later = shared_sum xs (All-tail IsShared x xs a) in
    omega (arith, sum_by-cons share x xs, share_one x (omega arith) (omega arith))

-- the bytes of a character, counted on its UTF-8
character_share : (c : ℕ) → IsScalar c
    → (length (character_bytes c) ≡ sum_by share (encode_utf8 c)) × (length (character_bytes c) ≤ 2 * length (encode_utf8 c))
character_share c s = by (forms c)
  where
    by : Forms c → (length (character_bytes c) ≡ sum_by share (encode_utf8 c)) × (length (character_bytes c) ≤ 2 * length (encode_utf8 c))
    by (null z) =
        let e = one c (omega arith) in
        let size = ap length (bytes_single c (omega arith) ∙ unit_two c (inl z) (omega arith)) in
        let sum = ap (sum_by share) e ∙ shares c [] 2 0 (ap share z) refl in
        (size ∙ sym sum, omega (arith, ap length e))
    by (same l e) =
        let a = subst (All IsShared) e (character_within c s) in
        (ap length e ∙ sym (shared_sum (encode_utf8 c) a), omega (arith, ap length e))
    by (pair l) =
        let e = four c l in
        let b = scalar_below c s in
        let high = surrogate_length (high_of c) (omega arith) in
        let low = surrogate_length (low_of c) (omega arith) in
        let size : length (character_bytes c) ≡ 6 = omega (arith, ap length (bytes_pair c l), length-append (unit_bytes (high_of c)) (unit_bytes (low_of c))) in
        let last = shares (next c) [] 1 0 (share_one (next c) (omega arith) (omega arith)) refl in
        let third = shares (next (c / 64)) (next c ∷ []) 1 1 (share_one (next (c / 64)) (omega arith) (omega arith)) last in
        let second = shares (next (c / 4096)) (next (c / 64) ∷ next c ∷ []) 1 2 (share_one (next (c / 4096)) (omega arith) (omega arith)) third in
        let all = shares (240 + c / 262144) (next (c / 4096) ∷ next (c / 64) ∷ next c ∷ []) 3 3 (share_three (240 + c / 262144) (omega arith)) second in
        let sum = ap (sum_by share) e ∙ all in
        (size ∙ sym sum, omega (arith, ap length e))

pub text_share : (cs : List ℕ) → IsText cs → (length (encoded cs) ≡ sum_by share (encode_utf8_all cs)) × (length (encoded cs) ≤ 2 * length (encode_utf8_all cs))
text_share [] t = (refl, omega arith)
text_share (c ∷ cs) t =
    let here = character_share c (first_scalar c cs t) in
    let later = text_share cs (rest_text c cs t) in
    let a = length-append (character_bytes c) (encoded cs) in
    let b = sum_by-append share (encode_utf8 c) (encode_utf8_all cs) in
    let d = length-append (encode_utf8 c) (encode_utf8_all cs) in
    (omega arith, omega arith)

-- the same of the text that bytes of UTF-8 spell
pub utf8_share : (bytes : List ℕ) → IsUtf8 bytes
    → (length (encoded (chars bytes)) ≡ sum_by share bytes) × (sum_by share bytes ≤ 2 * length bytes)
utf8_share bytes u =
    let h = text_share (chars bytes) (scalars-chars bytes u) in
    let e = encodes-chars bytes u in
    let sum = h.0 ∙ ap (sum_by share) e in
    (sum, omega (arith, h.1, ap length e))
