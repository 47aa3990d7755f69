-- The units of characters, and that no two characters share a front of bytes.
use Rattle.std.proofs.Common.{◌≡◌, ◌≢◌, Option, None, Some, drop, sym, ap, subst, ◌∙◌, ℕ, ◌+◌, ◌-◌, ◌*◌, ◌/◌, ◌%◌, ◌<◌, ◌≤◌, ◌⊎◌, inl, inr, List, [], ◌∷◌, ◌++◌, length, length-append, arith, append_assoc}
use Rattle.std.proofs.lemmas.Bool.Decides.{nat_tests}
use Rattle.std.proofs.lemmas.List.{append-nil}
use Rattle.std.proofs.Math.Utf8.{scalar_cases}
use Rattle.std.specs.Char.{IsScalar, OutOfScalarRange}
use Rattle.std.specs.Option.{SomeIff, MatchOption}
use Rattle.cf_mutf8.specs.ModifiedUtf8.{unit_bytes, units_of, units_bytes, character_bytes, NoCharacterBegins}
use Rattle.cf_mutf8.specs.Reading.{StandsAt}
use Rattle.cf_mutf8.proofs.Units.{unit_same, unit_form, UnitForm, one, two, three, unit_three}

abbrev pub high_of : ℕ → ℕ
high_of c = 0xD800 + (c - 0x10000) / 0x400

abbrev pub low_of : ℕ → ℕ
low_of c = 0xDC00 + (c - 0x10000) % 0x400

pub units_single : (c : ℕ) → c < 0x10000 → units_of c ≡ c ∷ []
unfolding units_of
units_single c l = grind (arith, nat_tests)

pub units_pair : (c : ℕ) → 0x10000 ≤ c → units_of c ≡ high_of c ∷ low_of c ∷ []
unfolding units_of
units_pair c l = grind (arith, nat_tests)

pub bytes_of_single : (c u : ℕ) → units_of c ≡ u ∷ [] → character_bytes c ≡ unit_bytes u
unfolding character_bytes
bytes_of_single c u e = ap units_bytes e ∙ append-nil (unit_bytes u)

pub bytes_of_pair : (c u v : ℕ) → units_of c ≡ u ∷ v ∷ [] → character_bytes c ≡ unit_bytes u ++ unit_bytes v
unfolding character_bytes
bytes_of_pair c u v e = ap units_bytes e ∙ ap (λ l. unit_bytes u ++ l) (append-nil (unit_bytes v))

pub bytes_single : (c : ℕ) → c < 0x10000 → character_bytes c ≡ unit_bytes c
bytes_single c l = bytes_of_single c c (units_single c l)

pub bytes_pair : (c : ℕ) → 0x10000 ≤ c → character_bytes c ≡ unit_bytes (high_of c) ++ unit_bytes (low_of c)
bytes_pair c l = bytes_of_pair c (high_of c) (low_of c) (units_pair c l)

-- the bytes that a character begins, by its units
pub front_pair : (c : ℕ) (rest : List ℕ) → 0x10000 ≤ c
    → character_bytes c ++ rest ≡ unit_bytes (high_of c) ++ (unit_bytes (low_of c) ++ rest)
front_pair c rest l = ap (λ l. l ++ rest) (bytes_pair c l) ∙ append_assoc (unit_bytes (high_of c)) (unit_bytes (low_of c)) rest

pub front_single : (c : ℕ) (rest : List ℕ) → c < 0x10000 → character_bytes c ++ rest ≡ unit_bytes c ++ rest
front_single c rest l = ap (λ l. l ++ rest) (bytes_single c l)

pub order : (m n : ℕ) → (m < n) ⊎ (n ≤ m)
order m n = grind arith

pub scalar_below : (c : ℕ) → IsScalar c → c < 0x110000
scalar_below c s = elim (scalar_cases c s) [ inl l ↦ omega arith | inr h ↦ h.1 ]

-- a scalar value is no surrogate
pub scalar_apart : (c : ℕ) → IsScalar c → 0xD800 ≤ c → 0xE000 ≤ c
scalar_apart c s l = elim (scalar_cases c s) [ inl m ↦ absurd (omega arith) | inr h ↦ h.0 ]

-- no two characters share a front
pub character_same : (c d : ℕ) (r s : List ℕ) → IsScalar c → IsScalar d → character_bytes c ++ r ≡ character_bytes d ++ s
    → (c ≡ d) × (r ≡ s)
character_same c d r s p q e = by (order c 0x10000) (order d 0x10000)
  where
    by : (c < 0x10000) ⊎ (0x10000 ≤ c) → (d < 0x10000) ⊎ (0x10000 ≤ d) → (c ≡ d) × (r ≡ s)
    by (inl l) (inl m) = unit_same c d r s l m (sym (front_single c r l) ∙ e ∙ front_single d s m)
    by (inl l) (inr m) =
        let b = scalar_below d q in
        let u = unit_same c (high_of d) r (unit_bytes (low_of d) ++ s) l (omega arith) (sym (front_single c r l) ∙ e ∙ front_pair d s m) in
        let a = scalar_apart c p (omega (arith, u.0)) in
        absurd (omega (arith, u.0))
    by (inr l) (inl m) =
        let b = scalar_below c p in
        let u = unit_same (high_of c) d (unit_bytes (low_of c) ++ r) s (omega arith) m (sym (front_pair c r l) ∙ e ∙ front_single d s m) in
        let a = scalar_apart d q (omega (arith, u.0)) in
        absurd (omega (arith, u.0))
    by (inr l) (inr m) =
        let b = scalar_below c p in
        let b' = scalar_below d q in
        let u = unit_same (high_of c) (high_of d) (unit_bytes (low_of c) ++ r) (unit_bytes (low_of d) ++ s) (omega arith) (omega arith) (sym (front_pair c r l) ∙ e ∙ front_pair d s m) in
        let v = unit_same (low_of c) (low_of d) r s (omega arith) (omega arith) u.1 in
        let x : high_of c ≡ high_of d = u.0 in
        let y : low_of c ≡ low_of d = v.0 in
        (omega arith, v.1)

-- a unit that no unit's bytes begin is no character's
pub none_without_unit : (bytes : List ℕ) → ((u : ℕ) → u < 0x10000 → (rest : List ℕ) → bytes ≡ unit_bytes u ++ rest → ⊥)
    → NoCharacterBegins bytes
none_without_unit bytes h c s rest e = by (order c 0x10000)
  where
    by : (c < 0x10000) ⊎ (0x10000 ≤ c) → ⊥
    by (inl l) = h c l rest (e ∙ front_single c rest l)
    by (inr l) = let b = scalar_below c s in h (high_of c) (omega arith) (unit_bytes (low_of c) ++ rest) (e ∙ front_pair c rest l)

-- behind a surrogate, a character goes on with the second of its units
pub none_without_low : (bytes behind : List ℕ) (high : ℕ) → OutOfScalarRange high → high < 0x10000
    → bytes ≡ unit_bytes high ++ behind
    → ((c : ℕ) (rest : List ℕ) → IsScalar c → 0x10000 ≤ c → high_of c ≡ high → behind ≡ unit_bytes (low_of c) ++ rest → ⊥)
    → NoCharacterBegins bytes
none_without_low bytes behind high o b f h c s rest e = by (order c 0x10000)
  where
    surrogate : OutOfScalarRange high → (0xD800 ≤ high) × (high < 0xE000)
    surrogate (inl r) = (r.0, omega arith)
    surrogate (inr l) = absurd (omega arith)

    by : (c < 0x10000) ⊎ (0x10000 ≤ c) → ⊥
    by (inl l) =
        let u = unit_same high c behind rest b l (sym f ∙ e ∙ front_single c rest l) in
        let r = surrogate o in
        let a = scalar_apart c s (omega (arith, u.0, r.0)) in
        omega (arith, u.0, r.1)
    by (inr l) =
        let m = scalar_below c s in
        let u = unit_same high (high_of c) behind (unit_bytes (low_of c) ++ rest) b (omega arith) (sym f ∙ e ∙ front_pair c rest l) in
        h c rest s l (sym u.0) u.1

pub unit_length : (u : ℕ) → 0 < length (unit_bytes u)
unit_length u = by (unit_form u)
  where
    by : UnitForm u → 0 < length (unit_bytes u)
    by (one p q f) = omega (arith, ap length f)
    by (two p q f) = omega (arith, ap length f)
    by (three p f) = omega (arith, ap length f)

pub character_length : (c : ℕ) → 0 < length (character_bytes c)
character_length c = by (order c 0x10000)
  where
    by : (c < 0x10000) ⊎ (0x10000 ≤ c) → 0 < length (character_bytes c)
    by (inl l) = omega (arith, ap length (bytes_single c l), unit_length c)
    by (inr l) =
        omega (arith, ap length (bytes_pair c l) ∙ length-append (unit_bytes (high_of c)) (unit_bytes (low_of c)), unit_length (high_of c))

-- what two units say of their character
pub pair_form : (c high low : ℕ) → units_of c ≡ high ∷ low ∷ [] → (0x10000 ≤ c) × (high_of c ≡ high) × (low_of c ≡ low)
pair_form c high low e = by (order c 0x10000)
  where
    by : (c < 0x10000) ⊎ (0x10000 ≤ c) → (0x10000 ≤ c) × (high_of c ≡ high) × (low_of c ≡ low)
    by (inl l) = absurd (omega (arith, ap length (sym (units_single c l) ∙ e)))
    by (inr l) = let f = sym (units_pair c l) ∙ e in (l, cc, cc)

pub pair_value : (high low : ℕ) → 0xD800 ≤ high → high < 0xDC00 → 0xDC00 ≤ low → low < 0xE000
    → units_of (0x10000 + (high - 0xD800) * 0x400 + (low - 0xDC00)) ≡ high ∷ low ∷ []
pair_value high low a b c d =
    let n : ℕ = 0x10000 + (high - 0xD800) * 0x400 + (low - 0xDC00) in
    let x : high_of n ≡ high = omega arith in
    let y : low_of n ≡ low = omega arith in
    units_pair n (omega arith) ∙ (λ i. x i ∷ y i ∷ [])

pub scalar_high : (c : ℕ) → 0xE000 ≤ c → c < 0x110000 → IsScalar c
scalar_high c l u = grind (arith, nat_tests)

-- what `from_u32` gives for a pair
pub pair_found : (high low : ℕ) → 0xD800 ≤ high → high < 0xDC00 → 0xDC00 ≤ low → low < 0xE000 → (r : Option ℕ)
    → SomeIff r (IsScalar (0x10000 + (high - 0xD800) * 0x400 + (low - 0xDC00))) (0x10000 + (high - 0xD800) * 0x400 + (low - 0xDC00))
    → MatchOption r ((c : ℕ) → IsScalar c → units_of c ≢ high ∷ low ∷ []) (λ c. IsScalar c × (units_of c ≡ high ∷ low ∷ []))
pair_found high low p q t u None h =
    absurd (h (scalar_high (0x10000 + (high - 0xD800) * 0x400 + (low - 0xDC00)) (omega arith) (omega arith)))
pair_found high low p q t u (Some x) h = (subst IsScalar (sym h.1) h.0, ap units_of h.1 ∙ pair_value high low p q t u)

pub surrogate_length : (u : ℕ) → 0x800 ≤ u → length (unit_bytes u) ≡ 3
surrogate_length u l = ap length (unit_three u l)

pub surrogate_range : (u : ℕ) → OutOfScalarRange u → u < 0x10000 → (0xD800 ≤ u) × (u < 0xE000)
surrogate_range u (inl r) l = (r.0, omega arith)
surrogate_range u (inr m) l = absurd (omega arith)

-- a character that is read as a pair
pub pair_read : (bytes : List ℕ) (at high low size c : ℕ) → drop at bytes ≡ unit_bytes high ++ drop (at + 3) bytes
    → drop (at + 3) bytes ≡ unit_bytes low ++ drop (at + 3 + size) bytes → size ≡ length (unit_bytes low)
    → IsScalar c × (units_of c ≡ high ∷ low ∷ []) → StandsAt bytes at c 6
pair_read bytes at high low size c p q r e =
    let f = pair_form c high low e.1 in
    let s : size ≡ 3 = r ∙ surrogate_length low (omega (arith, f.2)) in
    let offset : at + 3 + size ≡ at + 6 = omega arith in
    let b = bytes_of_pair c high low e.1 in
    let two = length-append (unit_bytes high) (unit_bytes low) in
    record {
      scalar = e.0;
      splits = p ∙ ap (λ l. unit_bytes high ++ l) (q ∙ ap (λ n. unit_bytes low ++ drop n bytes) offset)
          ∙ sym (append_assoc (unit_bytes high) (unit_bytes low) (drop (at + 6) bytes)) ∙ ap (λ l. l ++ drop (at + 6) bytes) (sym b);
      long = omega (arith, ap length b, two, surrogate_length low (omega (arith, f.2)), surrogate_length high (omega (arith, f.1)));
    }

-- and one that is read as a unit of its own
pub single_read : (bytes : List ℕ) (at unit size c : ℕ) → unit < 0x10000 → drop at bytes ≡ unit_bytes unit ++ drop (at + size) bytes
    → size ≡ length (unit_bytes unit) → IsScalar unit × (c ≡ unit) → StandsAt bytes at c size
single_read bytes at unit size c l p r e =
    let b = ap character_bytes e.1 ∙ bytes_single unit l in
    record {
      scalar = subst IsScalar (sym e.1) e.0;
      splits = p ∙ ap (λ l. l ++ drop (at + size) bytes) (sym b);
      long = r ∙ ap length (sym b);
    }
