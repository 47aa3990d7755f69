-- How far a reader has come: the start, one character and a run of plain bytes further, and the end.
use Rattle.std.proofs.Common.{◌≡◌, refl, sym, ap, subst, ◌∙◌, ℕ, zero, suc, ◌+◌, ◌-◌, ◌<◌, ◌≤◌, ◌⊎◌, ◌↔◌, inl, inr, List, [], ◌∷◌, ◌++◌, length, length-append, length-take, length-drop, take, drop, get_or, arith, append_assoc, Result, Err}
use Rattle.std.proofs.lemmas.Bool.{and_from}
use Rattle.std.proofs.lemmas.List.{append-nil, drop_all, get_or_past, get_or-drop, get_or-take, take_more}
use Rattle.std.proofs.lemmas.Str.{chars-nil, chars-append, chars-encodes, chars-IsAscii}
use Rattle.std.proofs.Math.Utf8.{scalar, scalars, low_scalar}
use Rattle.std.specs.Char.{IsScalar, encode_utf8}
use Rattle.std.specs.Int.{IsInRange}
use Rattle.std.specs.Str.{chars, IsUtf8, IsAscii}
use Rattle.cf_mutf8.specs.ModifiedUtf8.{character_bytes, encoded, Spells, NoCharacterBegins, IsBadUnitAt}
use Rattle.cf_mutf8.specs.Reading.{StandsAt, IsReadTo, IsCause}
use Rattle.cf_mutf8.specs.declared.utf8_fault.Utf8Fault.{Utf8Fault}
use Rattle.cf_mutf8.specs.declared.utf8_fault.Utf8Fault.TheVariants.{BadUtf, Memory}
use Rattle.cf_mutf8.proofs.Units.{front_one, unit_one}
use Rattle.cf_mutf8.proofs.Pairs.{order, bytes_single, character_length}
use Rattle.cf_mutf8.proofs.Texts.{text-append, encoded-append, bad_one, bad_apart}

pub read_nothing : (bytes : List ℕ) → IsReadTo bytes [] 0
read_nothing bytes = record { is_text = refl; splits = refl; before = refl }

pub read_start : (bytes start : List ℕ) → start ≡ [] → IsReadTo bytes (chars start) 0
read_start bytes start e = subst (λ t. IsReadTo bytes t 0) (sym (ap chars e ∙ chars-nil)) (read_nothing bytes)

pub read_within : (bytes text : List ℕ) (at : ℕ) → IsReadTo bytes text at → at ≤ length bytes
read_within bytes text at h =
    let s = ap length h.splits ∙ length-append (encoded text) (drop at bytes) in
    let b = h.before in
    omega arith

pub encoded_push : (text : List ℕ) (c : ℕ) → encoded (text ++ c ∷ []) ≡ encoded text ++ character_bytes c
encoded_push text c = encoded-append text (c ∷ []) ∙ ap (λ l. encoded text ++ l) (append-nil (character_bytes c))

-- one character further
pub read_more : (bytes text : List ℕ) (at c n : ℕ) → IsReadTo bytes text at → StandsAt bytes at c n → IsReadTo bytes (text ++ c ∷ []) (at + n)
read_more bytes text at c n h s =
    let p = encoded_push text c in
    record {
      is_text = text-append text (c ∷ []) h.is_text (and_from (scalar c) (scalars []) s.scalar refl);
      splits = h.splits ∙ ap (λ l. encoded text ++ l) s.splits ∙ sym (append_assoc (encoded text) (character_bytes c) (drop (at + n) bytes)) ∙ ap (λ l. l ++ drop (at + n) bytes) (sym p);
      before = let b = h.before in let l = s.long in omega (arith, ap length p ∙ length-append (encoded text) (character_bytes c));
    }

pub further : (bytes : List ℕ) (at c n : ℕ) → StandsAt bytes at c n → at < at + n
further bytes at c n s = let l = s.long in omega (arith, character_length c)

-- a run of plain bytes further
plain_more : (bytes text : List ℕ) (at : ℕ) → IsReadTo bytes text at → IsInRange 0x01 0x7F (get_or bytes at 0)
    → IsReadTo bytes (text ++ get_or bytes at 0 ∷ []) (at + 1)
plain_more bytes text at h p =
    let c : ℕ = get_or bytes at 0 in
    let e : character_bytes c ≡ c ∷ [] = bytes_single c (omega arith) ∙ unit_one c (omega arith) (omega arith) in
    read_more bytes text at c 1 h (record {
      scalar = low_scalar c (omega arith);
      splits = front_one bytes at (omega arith) ∙ ap (λ l. l ++ drop (at + 1) bytes) (sym e);
      long = ap length (sym e);
    })

read_plain : (bytes text : List ℕ) (at n : ℕ) → IsReadTo bytes text at → at + n ≤ length bytes
    → ((k : ℕ) → at ≤ k → k < at + n → IsInRange 0x01 0x7F (get_or bytes k 0)) → IsReadTo bytes (text ++ take n (drop at bytes)) (at + n)
read_plain bytes text at zero h l p =
    let here : at + zero ≡ at = omega arith in
    let same : text ++ take zero (drop at bytes) ≡ text = append-nil text in
    subst (λ n. IsReadTo bytes (text ++ take zero (drop at bytes)) n) (sym here) (subst (λ t. IsReadTo bytes t at) (sym same) h)
read_plain bytes text at (suc n) h l p =
    let before = read_plain bytes text at n h (omega arith) (λ k a b. p k a (omega arith)) in
    let more = plain_more bytes (text ++ take n (drop at bytes)) (at + n) before (p (at + n) (omega arith) (omega arith)) in
    let offset : at + n + 1 ≡ at + suc n = omega arith in
    let next : n + 1 ≡ suc n = omega arith in
    let within : n < length (drop at bytes) = omega (arith, length-drop at bytes) in
    let one_more = ap (λ m. take m (drop at bytes)) (sym next) ∙ take_more (drop at bytes) n 0 within ∙ ap (λ b. take n (drop at bytes) ++ b ∷ []) (get_or-drop at bytes n 0) in
    let same = append_assoc text (take n (drop at bytes)) (get_or bytes (at + n) 0 ∷ []) ∙ ap (λ l. text ++ l) (sym one_more) in
    subst (λ m. IsReadTo bytes (text ++ take (suc n) (drop at bytes)) m) offset (subst (λ t. IsReadTo bytes t (at + n + 1)) same more)

pub read_run : (bytes text : List ℕ) (at end : ℕ) → IsReadTo bytes text at → at ≤ end → end ≤ length bytes
    → ((k : ℕ) → at ≤ k → k < end → IsInRange 0x01 0x7F (get_or bytes k 0)) → IsReadTo bytes (text ++ take (end - at) (drop at bytes)) end
read_run bytes text at end h l m p =
    let offset : at + (end - at) ≡ end = omega arith in
    subst (IsReadTo bytes (text ++ take (end - at) (drop at bytes))) offset (read_plain bytes text at (end - at) h (omega arith) (λ k a b. p k a (omega arith)))

pub run_ascii : (bytes : List ℕ) (at end : ℕ) → ((k : ℕ) → at ≤ k → k < end → IsInRange 0x01 0x7F (get_or bytes k 0))
    → IsAscii (take (end - at) (drop at bytes))
run_ascii bytes at end p k = by (order k (end - at))
  where
    by : (k < end - at) ⊎ (end - at ≤ k) → get_or (take (end - at) (drop at bytes)) k 0 < 128
    by (inl l) =
        let r = p (at + k) (omega arith) (omega arith) in
        omega (arith, get_or-take (end - at) (drop at bytes) k 0 l ∙ get_or-drop at bytes k 0)
    by (inr m) = omega (arith, get_or_past (take (end - at) (drop at bytes)) k 0 (omega (arith, length-take (end - at) (drop at bytes))))

-- where no character goes on, and where the bytes end
pub read_stops : (bytes text : List ℕ) (at : ℕ) → IsReadTo bytes text at → at < length bytes → NoCharacterBegins (drop at bytes)
    → IsBadUnitAt bytes at
read_stops bytes text at h l n = record {
  text = text;
  rest = drop at bytes;
  is_text = h.is_text;
  splits = h.splits;
  before = h.before;
  not_empty = let s = ap length h.splits ∙ length-append (encoded text) (drop at bytes) in let b = h.before in omega arith;
  wrong = n;
}

pub read_all : (bytes text : List ℕ) (at : ℕ) → IsReadTo bytes text at → length bytes ≤ at → Spells bytes text
read_all bytes text at h l =
    (h.is_text, h.splits ∙ ap (λ l. encoded text ++ l) (drop_all at bytes l) ∙ append-nil (encoded text))

-- the characters of a text that was added to
pub chars_push : (text : List ℕ) (c : ℕ) → IsUtf8 text → IsScalar c → chars (text ++ encode_utf8 c) ≡ chars text ++ c ∷ []
chars_push text c u s =
    chars-append text (encode_utf8 c) u
    ∙ ap (λ l. chars text ++ l) (ap chars (sym (append-nil (encode_utf8 c))) ∙ chars-encodes (c ∷ []) (and_from (scalar c) (scalars []) s refl))

pub chars_run : (text run : List ℕ) → IsUtf8 text → IsAscii run → chars (text ++ run) ≡ chars text ++ run
chars_run text run u a = chars-append text run u ∙ ap (λ l. chars text ++ l) (chars-IsAscii run a)

-- a character further, with the text that it was added to
pub read_push : (bytes text new : List ℕ) (at c n : ℕ) → IsUtf8 text → IsReadTo bytes (chars text) at → StandsAt bytes at c n
    → new ≡ text ++ encode_utf8 c → IsReadTo bytes (chars new) (at + n) × (at < at + n)
read_push bytes text new at c n u h s e = (
  subst (λ t. IsReadTo bytes t (at + n)) (sym (ap chars e ∙ chars_push text c u s.scalar)) (read_more bytes (chars text) at c n h s),
  further bytes at c n s,
)

-- a fault that is true of the bytes is `BadUtf` exactly at the first wrong unit
pub cause_bad : (X : Type 0) (bytes : List ℕ) (fault : Utf8Fault) → IsCause bytes fault → (at : ℕ)
    → (◌≡◌ {A = Result X Utf8Fault} (Err fault) (Err (BadUtf at))) ↔ IsBadUnitAt bytes at
cause_bad X bytes (BadUtf i) h at = (λ e. let same : i ≡ at = cc in subst (IsBadUnitAt bytes) same h, λ k. let same : i ≡ at = bad_one bytes i at h k in cc)
cause_bad X bytes Memory h at = (λ e. cc, λ k. absurd (bad_apart bytes h.0 at k h.1))
