-- The definitions of UTF-8 and std's words say the same.
use Rattle.std.proofs.Common.{◌≡◌, refl, sym, ap, subst, ◌∙◌, ℕ, ◌+◌, ◌<◌, List, [], ◌∷◌, ◌++◌, length, take, drop, append_assoc, length-take, length-drop, true, arith}
use Rattle.std.proofs.lemmas.Bool.{and_parts, and_from}
use Rattle.std.proofs.lemmas.Str.{chars_from_encodes, encodes-chars, scalars-chars, IsUtf8-append, IsUtf8-encode, IsUtf8-drop, IsCharBoundary-from_take, utf8_valid_len-IsValidUpTo}
use Rattle.std.proofs.Math.Utf8.{scalar, scalars}
use Rattle.std.specs.Char.{encode_utf8}
use Rattle.std.specs.Str.{chars, IsUtf8, IsValidUpTo, encode_utf8_all}
use Rattle.std.proofs.lemmas.List.{take_all, take-take, take-append-drop, drop-append-le, drop-take}
use Rattle.std.proofs.Math.Seq.{take-append_seam}
use Rattle.sl_text.specs.Utf8.{IsByteSequence, from_0000, from_0080, from_0800, from_1000, from_D000, from_E000, from_10000, from_40000, from_100000, code_point, Spells, IsWellFormed, StartsWithSequence, IsIllFormedAt}
use Rattle.sl_text.proofs.Sequences.{encode_row, row_encode, row_scalar, encodes_is, encodes_scalar, scalar_value, scalar_true}

-- what is spelled is what std decodes
pub spells_std : (bytes cs : List ℕ) → Spells bytes cs → (scalars cs ≡ true) × (encode_utf8_all cs ≡ bytes)
spells_std bytes [] e = (refl, sym e)
spells_std bytes (c ∷ cs) s =
    let later = spells_std s.1 cs s.4 in
    (and_from _ _ (scalar_true c (encodes_scalar s.0 c s.3)) later.0, (λ i. encodes_is s.0 c s.3 i ++ later.1 i) ∙ sym s.2)

spells_encoded : (cs : List ℕ) → scalars cs ≡ true → Spells (encode_utf8_all cs) cs
spells_encoded [] s = refl
spells_encoded (c ∷ cs) s =
    let both = and_parts (scalar c) (scalars cs) s in
    (encode_utf8 c, encode_utf8_all cs, refl, encode_row c (scalar_value c both.0), spells_encoded cs both.1)

pub well_formed_std : (bytes : List ℕ) → IsWellFormed bytes → IsUtf8 bytes
well_formed_std bytes w = (w.0, spells_std bytes w.0 w.1)

pub std_spells : (bytes : List ℕ) → IsUtf8 bytes → Spells bytes (chars bytes)
std_spells bytes u = subst (λ bs. Spells bs (chars bytes)) (encodes-chars bytes u) (spells_encoded (chars bytes) (scalars-chars bytes u))

pub std_well_formed : (bytes : List ℕ) → IsUtf8 bytes → IsWellFormed bytes
std_well_formed bytes u = (chars bytes, std_spells bytes u)

-- the characters that are spelled are std's
pub spells_chars : (bytes cs : List ℕ) → Spells bytes cs → cs ≡ chars bytes
spells_chars bytes cs s = let e = spells_std bytes cs s in chars_from_encodes cs bytes (cs, e) e.1

pub spells_one : (bytes xs ys : List ℕ) → Spells bytes xs → Spells bytes ys → xs ≡ ys
spells_one bytes xs ys s t = spells_chars bytes xs s ∙ sym (spells_chars bytes ys t)

-- bytes that are UTF-8, and not empty, begin with a sequence
starts : (bytes : List ℕ) → IsUtf8 bytes → 0 < length bytes → StartsWithSequence bytes
starts bytes u some = by u.0 u.1.0 u.1.1
  where
    by : (cs : List ℕ) → scalars cs ≡ true → encode_utf8_all cs ≡ bytes → StartsWithSequence bytes
    by [] s e = absurd (omega (arith, ap length e))
    by (c ∷ cs) s e = (encode_utf8 c, encode_utf8_all cs, sym e, (encode_row c (scalar_value c (and_parts (scalar c) (scalars cs) s).0)).0)

starts_append : (xs ys : List ℕ) → StartsWithSequence xs → StartsWithSequence (xs ++ ys)
starts_append xs ys s = (s.0, s.1 ++ ys, ap (λ l. l ++ ys) s.2 ∙ append_assoc s.0 s.1 ys, s.3)

-- behind a front that is UTF-8, a longer one goes on with a sequence
front_starts : (bytes : List ℕ) (i m : ℕ) → i < m → i < length bytes → IsUtf8 (take i bytes)
    → IsUtf8 (take m bytes) → StartsWithSequence (drop i bytes)
front_starts bytes i m lt within short long =
    let t : List ℕ = take m bytes in
    let size : i < length t = omega (arith, length-take m bytes) in
    let front : IsUtf8 (take i t) = subst IsUtf8 (sym (take-take i m bytes (omega arith))) short in
    let rest : IsUtf8 (drop i t) = IsUtf8-drop t i long (IsCharBoundary-from_take t i long (omega arith) front) in
    let split : drop i t ++ drop m bytes ≡ drop i bytes = sym (drop-append-le i t (drop m bytes) (omega arith)) ∙ ap (drop i) (take-append-drop m bytes) in
    subst StartsWithSequence split (starts_append (drop i t) (drop m bytes) (starts (drop i t) rest (omega (arith, length-drop i t))))

-- where the first ill-formed sequence begins, the longest front that is UTF-8 ends
pub ill_formed_std : (bytes : List ℕ) (at : ℕ) → IsIllFormedAt bytes at → IsValidUpTo bytes at
ill_formed_std bytes at h = record {
  short = h.within;
  front = well_formed_std _ h.before;
  longest = λ m more u. h.none (front_starts bytes at m more h.within (well_formed_std _ h.before) u);
}

sequence_length : {s : List ℕ} → IsByteSequence s → 0 < length s
sequence_length (from_0000 p) = omega arith
sequence_length (from_0080 p q) = omega arith
sequence_length (from_0800 p q r) = omega arith
sequence_length (from_1000 p q r) = omega arith
sequence_length (from_D000 p q r) = omega arith
sequence_length (from_E000 p q r) = omega arith
sequence_length (from_10000 p q r t) = omega arith
sequence_length (from_40000 p q r t) = omega arith
sequence_length (from_100000 p q r t) = omega arith

sequence_std : (s : List ℕ) → IsByteSequence s → IsUtf8 s
sequence_std s r = subst IsUtf8 (row_encode r) (IsUtf8-encode (code_point s) (scalar_true (code_point s) (row_scalar r)))

-- a front that is UTF-8, and the sequence behind it
longer : (bytes : List ℕ) (at : ℕ) (s rest : List ℕ) → drop at bytes ≡ s ++ rest → IsByteSequence s
    → IsUtf8 (take at bytes) → IsUtf8 (take (at + length s) bytes)
longer bytes at s rest e r u =
    let m : ℕ = at + length s in
    let t : List ℕ = take m bytes in
    let front : take at t ≡ take at bytes = take-take at m bytes (omega arith) in
    let behind : drop at t ≡ s = drop-take at (length s) bytes ∙ ap (take (length s)) e ∙ take-append_seam s rest in
    let split : take at bytes ++ s ≡ t = (λ i. sym front i ++ sym behind i) ∙ take-append-drop at t in
    subst IsUtf8 split (IsUtf8-append (take at bytes) s u (sequence_std s r))

pub std_ill_formed : (bytes : List ℕ) (at : ℕ) → IsValidUpTo bytes at → IsIllFormedAt bytes at
std_ill_formed bytes at v = record { within = v.short; before = std_well_formed _ v.front; none = none }
  where
    none : ¬ (StartsWithSequence (drop at bytes))
    none s = v.longest (at + length s.0) (omega (arith, sequence_length s.3)) (longer bytes at s.0 s.1 s.2 s.3 v.front)

pub ill_formed_one : (bytes : List ℕ) (i j : ℕ) → IsIllFormedAt bytes i → IsIllFormedAt bytes j → i ≡ j
ill_formed_one bytes i j a b = sym (utf8_valid_len-IsValidUpTo bytes i (ill_formed_std bytes i a)) ∙ utf8_valid_len-IsValidUpTo bytes j (ill_formed_std bytes j b)

pub ill_formed_apart : (bytes : List ℕ) (i : ℕ) → IsIllFormedAt bytes i → ¬ (IsWellFormed bytes)
ill_formed_apart bytes i h w =
    (ill_formed_std bytes i h).longest (length bytes) h.within (subst IsUtf8 (sym (take_all (length bytes) bytes (omega arith))) (well_formed_std bytes w))
