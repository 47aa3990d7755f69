-- The well-formed sequence of a character is what `encode_utf8` gives for it.
use Rattle.std.proofs.Common.{◌≡◌, refl, sym, ap, subst, ◌∙◌, ℕ, ◌+◌, ◌/◌, ◌<◌, ◌≤◌, List, [], ◌∷◌, ◌⊎◌, inl, inr, true, arith}
use Rattle.std.proofs.lemmas.Bool.Decides.{nat_tests}
use Rattle.std.proofs.Math.Utf8.{scalar, scalar_cases, low_scalar, next}
use Rattle.std.specs.Char.{encode_utf8}
use Rattle.std.specs.Int.{IsInRange}
use Rattle.sl_text.specs.Utf8.{IsScalarValue, IsByteSequence, from_0000, from_0080, from_0800, from_1000, from_D000, from_E000, from_10000, from_40000, from_100000, code_point, Encodes}

-- the two ways of a test
order : (m n : ℕ) → (m < n) ⊎ (n ≤ m)
order m n = grind arith

one : (c : ℕ) → c < 128 → encode_utf8 c ≡ c ∷ []
unfolding encode_utf8
one c h = grind (arith, nat_tests)

two : (c : ℕ) → 128 ≤ c → c < 2048 → encode_utf8 c ≡ (192 + c / 64) ∷ next c ∷ []
unfolding encode_utf8
two c l h = grind (arith, nat_tests)

three : (c : ℕ) → 2048 ≤ c → c < 65536 → encode_utf8 c ≡ (224 + c / 4096) ∷ next (c / 64) ∷ next c ∷ []
unfolding encode_utf8
three c l h = grind (arith, nat_tests)

four : (c : ℕ) → 65536 ≤ c → encode_utf8 c ≡ (240 + c / 262144) ∷ next (c / 4096) ∷ next (c / 64) ∷ next c ∷ []
unfolding encode_utf8
four c l = grind (arith, nat_tests)

-- std's test of a scalar value is the definition
pub scalar_value : (c : ℕ) → scalar c ≡ true → IsScalarValue c
scalar_value c s = elim (scalar_cases c s) [ inl h ↦ inl (omega arith, omega arith) | inr h ↦ inr (omega arith, omega arith) ]

pub scalar_true : (c : ℕ) → IsScalarValue c → scalar c ≡ true
scalar_true c (inl h) = low_scalar c (omega arith)
scalar_true c (inr h) = high c (omega arith) (omega arith)
  where
    high : (d : ℕ) → 57344 ≤ d → d < 1114112 → scalar d ≡ true
    high d l u = grind (arith, nat_tests)

-- each scalar value has a sequence, and it is std's
two_row : (c : ℕ) → 128 ≤ c → c < 2048 → Encodes (encode_utf8 c) c
two_row c l h = subst (λ s. Encodes s c) (sym (two c l h)) (from_0080 (omega arith, omega arith) (omega arith, omega arith), omega arith)

three_row : (c : ℕ) → 2048 ≤ c → c < 65536 → IsScalarValue c → Encodes (encode_utf8 c) c
three_row c l h s = subst (λ s. Encodes s c) (sym (three c l h)) (by (order c 0x1000) (order c 0xD000) (order c 0xE000) s, omega arith)
  where
    by : (c < 0x1000) ⊎ (0x1000 ≤ c) → (c < 0xD000) ⊎ (0xD000 ≤ c) → (c < 0xE000) ⊎ (0xE000 ≤ c) → IsScalarValue c
        → IsByteSequence ((224 + c / 4096) ∷ next (c / 64) ∷ next c ∷ [])
    by (inl a) _ _ _ = from_0800 (omega arith) (omega arith, omega arith) (omega arith, omega arith)
    by (inr z) (inl a) _ _ = from_1000 (omega arith, omega arith) (omega arith, omega arith) (omega arith, omega arith)
    by (inr _) (inr b) (inl a) (inl t) = from_D000 (omega arith) (omega arith, omega arith) (omega arith, omega arith)
    by (inr _) (inr _) (inl a) (inr t) = absurd (omega arith)
    by (inr _) (inr _) (inr b) _ = from_E000 (omega arith, omega arith) (omega arith, omega arith) (omega arith, omega arith)

four_row : (c : ℕ) → 65536 ≤ c → c < 0x110000 → Encodes (encode_utf8 c) c
four_row c l h = subst (λ s. Encodes s c) (sym (four c l)) (by (order c 0x40000) (order c 0x100000), omega arith)
  where
    by : (c < 0x40000) ⊎ (0x40000 ≤ c) → (c < 0x100000) ⊎ (0x100000 ≤ c)
        → IsByteSequence ((240 + c / 262144) ∷ next (c / 4096) ∷ next (c / 64) ∷ next c ∷ [])
    by (inl a) _ = from_10000 (omega arith) (omega arith, omega arith) (omega arith, omega arith) (omega arith, omega arith)
    by (inr z) (inl a) = from_40000 (omega arith, omega arith) (omega arith, omega arith) (omega arith, omega arith) (omega arith, omega arith)
    by (inr _) (inr b) = from_100000 (omega arith) (omega arith, omega arith) (omega arith, omega arith) (omega arith, omega arith)

pub encode_row : (c : ℕ) → IsScalarValue c → Encodes (encode_utf8 c) c
encode_row c s = by (order c 128) (order c 2048) (order c 65536)
  where
    below : IsScalarValue c → c < 0x110000
    below (inl h) = omega arith
    below (inr h) = omega arith

    by : (c < 128) ⊎ (128 ≤ c) → (c < 2048) ⊎ (2048 ≤ c) → (c < 65536) ⊎ (65536 ≤ c) → Encodes (encode_utf8 c) c
    by (inl h) _ _ = subst (λ s. Encodes s c) (sym (one c h)) (from_0000 (omega arith, omega arith), refl)
    by (inr l) (inl h) _ = two_row c l h
    by (inr _) (inr l) (inl h) = three_row c l h s
    by (inr _) (inr _) (inr l) = four_row c l (below s)

-- and each sequence is std's for the scalar value that it encodes
two_back : (a b : ℕ) → IsInRange 0xC2 0xDF a → IsInRange 0x80 0xBF b → encode_utf8 (code_point (a ∷ b ∷ [])) ≡ a ∷ b ∷ []
two_back a b p q =
    let n : ℕ = code_point (a ∷ b ∷ []) in
    let x : 192 + n / 64 ≡ a = omega arith in
    let y : next n ≡ b = omega arith in
    two n (omega arith) (omega arith) ∙ (λ i. x i ∷ y i ∷ [])

three_back : (a b c : ℕ) → IsInRange 0xE0 0xEF a → IsInRange 0x80 0xBF b → IsInRange 0x80 0xBF c
    → 2048 ≤ code_point (a ∷ b ∷ c ∷ [])
    → encode_utf8 (code_point (a ∷ b ∷ c ∷ [])) ≡ a ∷ b ∷ c ∷ []
three_back a b c p q r l =
    let n : ℕ = code_point (a ∷ b ∷ c ∷ []) in
    let x : 224 + n / 4096 ≡ a = omega arith in
    let y : next (n / 64) ≡ b = omega arith in
    let z : next n ≡ c = omega arith in
    three n (omega arith) (omega arith) ∙ (λ i. x i ∷ y i ∷ z i ∷ [])

four_back : (a b c d : ℕ) → IsInRange 0xF0 0xF4 a → IsInRange 0x80 0xBF b → IsInRange 0x80 0xBF c → IsInRange 0x80 0xBF d
    → 65536 ≤ code_point (a ∷ b ∷ c ∷ d ∷ []) → encode_utf8 (code_point (a ∷ b ∷ c ∷ d ∷ [])) ≡ a ∷ b ∷ c ∷ d ∷ []
four_back a b c d p q r s l =
    let n : ℕ = code_point (a ∷ b ∷ c ∷ d ∷ []) in
    let w : 240 + n / 262144 ≡ a = omega arith in
    let x : next (n / 4096) ≡ b = omega arith in
    let y : next (n / 64) ≡ c = omega arith in
    let z : next n ≡ d = omega arith in
    four n (omega arith) ∙ (λ i. w i ∷ x i ∷ y i ∷ z i ∷ [])

pub row_encode : {s : List ℕ} → IsByteSequence s → encode_utf8 (code_point s) ≡ s
row_encode (from_0000 {a} p) = one a (omega arith)
row_encode (from_0080 {a} {b} p q) = two_back a b p q
row_encode (from_0800 {a} {b} {c} p q r) = three_back a b c (omega arith, omega arith) (omega arith, omega arith) r (omega arith)
row_encode (from_1000 {a} {b} {c} p q r) = three_back a b c (omega arith, omega arith) q r (omega arith)
row_encode (from_D000 {a} {b} {c} p q r) = three_back a b c (omega arith, omega arith) (omega arith, omega arith) r (omega arith)
row_encode (from_E000 {a} {b} {c} p q r) = three_back a b c (omega arith, omega arith) q r (omega arith)
row_encode (from_10000 {a} {b} {c} {d} p q r s) = four_back a b c d (omega arith, omega arith) (omega arith, omega arith) r s (omega arith)
row_encode (from_40000 {a} {b} {c} {d} p q r s) = four_back a b c d (omega arith, omega arith) q r s (omega arith)
row_encode (from_100000 {a} {b} {c} {d} p q r s) = four_back a b c d (omega arith, omega arith) (omega arith, omega arith) r s (omega arith)

pub row_scalar : {s : List ℕ} → IsByteSequence s → IsScalarValue (code_point s)
row_scalar (from_0000 p) = inl (omega arith, omega arith)
row_scalar (from_0080 p q) = inl (omega arith, omega arith)
row_scalar (from_0800 p q r) = inl (omega arith, omega arith)
row_scalar (from_1000 p q r) = inl (omega arith, omega arith)
row_scalar (from_D000 p q r) = inl (omega arith, omega arith)
row_scalar (from_E000 p q r) = inr (omega arith, omega arith)
row_scalar (from_10000 p q r s) = inr (omega arith, omega arith)
row_scalar (from_40000 p q r s) = inr (omega arith, omega arith)
row_scalar (from_100000 p q r s) = inr (omega arith, omega arith)

pub encodes_is : (bytes : List ℕ) (c : ℕ) → Encodes bytes c → encode_utf8 c ≡ bytes
encodes_is bytes c e = ap encode_utf8 (sym e.1) ∙ row_encode e.0

pub encodes_scalar : (bytes : List ℕ) (c : ℕ) → Encodes bytes c → IsScalarValue c
encodes_scalar bytes c e = subst IsScalarValue e.1 (row_scalar e.0)
