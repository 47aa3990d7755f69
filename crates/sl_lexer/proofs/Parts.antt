-- The parts of a text literal, one after the other.
use Rattle.std.proofs.Common.{◌≡◌, ℕ, zero, suc, ◌+◌, ◌<◌, ◌≤◌, Bool, true, false, List, [], ◌∷◌, ◌++◌, length, drop, Option, Some, None, refl, sym, ap, ◌∙◌, arith, append_assoc, length-drop}
use Rattle.std.specs.Prelude.{◌==◌, if◌then◌else◌}
use Rattle.std.specs.Option.{option_and_then}
use Rattle.std.specs.List.{prefix_len}
use Rattle.std.proofs.lemmas.List.{drop-drop}
use Rattle.sl_lexer.specs.Characters.{first, ends_line}
use Rattle.sl_lexer.specs.TextLiteral.{named, hex_at, four, unless_surrogate, code, escaped, coded, escape_by, part_of, with_char, by_part, text_in, text_end}
use Rattle.sl_lexer.specs.declared.texts.Part.{Part}
use Rattle.sl_lexer.specs.declared.texts.Part.TheVariants as p
use Rattle.sl_lexer.specs.declared.texts.TextEnd.{TextEnd}
use Rattle.sl_lexer.specs.declared.texts.TextEnd.TheVariants as e

-- ---- a part has a character, and no more than there are

four_none : (a b c : Option ℕ) → four a b c None ≡ None
four_none None b c = refl
four_none (Some x) None c = refl
four_none (Some x) (Some y) None = refl
four_none (Some x) (Some y) (Some z) = refl

no_code : (a : List ℕ) (v : ℕ) → hex_at 3 a ≡ None → code a ≡ Some v → ⊥
no_code a v h k =
    let i : code a ≡ None = ap (λ o. option_and_then unless_surrogate (four (hex_at 0 a) (hex_at 1 a) (hex_at 2 a) o)) h ∙ ap (option_and_then unless_surrogate) (four_none (hex_at 0 a) (hex_at 1 a) (hex_at 2 a)) in
    absurd cc

code_len : (a : List ℕ) (v : ℕ) → code a ≡ Some v → 4 ≤ length a
code_len [] v h = absurd (no_code [] v refl h)
code_len (a ∷ []) v h = absurd (no_code (a ∷ []) v refl h)
code_len (a ∷ b ∷ []) v h = absurd (no_code (a ∷ b ∷ []) v refl h)
code_len (a ∷ b ∷ c ∷ []) v h = absurd (no_code (a ∷ b ∷ c ∷ []) v refl h)
code_len (a ∷ b ∷ c ∷ d ∷ r) v h = omega arith

escaped_is : (k : ℕ) (o : Option ℕ) (c n : ℕ) → escaped k o ≡ p.Char c n → (k ≡ n) × (v : ℕ) × (o ≡ Some v)
escaped_is k None c n h = absurd cc
escaped_is k (Some v) c n h = (cc, v, refl)

coded_size : (a : List ℕ) (c n : ℕ) → coded a ≡ p.Char c n → (0 < n) × (n ≤ suc (length a))
coded_size a c n h =
    let us = prefix_len (λ c. c == 117) a in
    let k = escaped_is (us + 5) (code (drop us a)) c n h in
    let l = code_len (drop us a) k.1 k.2 in
    let m = length-drop us a in
    (omega (arith, k.0), omega (arith, k.0, l, m))

escape_size : (a : List ℕ) (c n : ℕ) → escape_by (first a) a ≡ p.Char c n → (0 < n) × (n ≤ suc (length a))
escape_size [] c n h = absurd cc
escape_size (d ∷ a) c n h = go (ends_line d) (d == 117) h
  where
    go : (q r : Bool) → (if q then p.End else (if r then coded (d ∷ a) else escaped 2 (named d))) ≡ p.Char c n → (0 < n) × (n ≤ suc (suc (length a)))
    go true r h = absurd cc
    go false true h = coded_size (d ∷ a) c n h
    go false false h = let k = escaped_is 2 (named d) c n h in (omega (arith, k.0), omega (arith, k.0))

pub part_size : (a : List ℕ) (c n : ℕ) → part_of a ≡ p.Char c n → (0 < n) × (n ≤ length a)
part_size [] c n h = absurd cc
part_size (d ∷ a) c n h = go (d == 34) (ends_line d) (d == 92) h
  where
    go : (q r s : Bool) → (if q then p.Close else (if r then p.End else (if s then escape_by (first a) a else p.Char d 1))) ≡ p.Char c n → (0 < n) × (n ≤ suc (length a))
    go true r s h = absurd cc
    go false true s h = absurd cc
    go false false true h = escape_size a c n h
    go false false false h = let k : 1 ≡ n = cc in (omega (arith, k), omega (arith, k))

pub close_size : (a : List ℕ) → part_of a ≡ p.Close → 0 < length a
close_size [] h = absurd cc
close_size (d ∷ a) h = omega arith

-- ---- as many parts as there may be

shorter : (a : List ℕ) (j m : ℕ) → 0 < j → j ≤ length a → length a < suc m → length (drop j a) < m
shorter a j m h k l = omega (arith, length-drop j a, h, k, l)

same_in : (m n : ℕ) (a : List ℕ) → length a < m → length a < n → text_in m a ≡ text_in n a
unfolding text_in
same_in zero n a h k = absurd (omega arith)
same_in (suc m) zero a h k = absurd (omega arith)
same_in (suc m) (suc n) a h k = go (part_of a) refl (λ j i l. same_in m n (drop j a) (shorter a j m i l h) (shorter a j n i l k))
  where
    go : (q : Part) → part_of a ≡ q → ((j : ℕ) → 0 < j → j ≤ length a → text_in m (drop j a) ≡ text_in n (drop j a)) → by_part (λ k. text_in m (drop k a)) q ≡ by_part (λ k. text_in n (drop k a)) q
    go (p.Char c j) i ih = let s = part_size a c j i in ap (with_char c j) (ih j s.0 s.1)
    go p.Close i ih = refl
    go p.Wrong i ih = refl
    go p.End i ih = refl

pub text_step : (a : List ℕ) → text_end a ≡ by_part (λ k. text_end (drop k a)) (part_of a)
unfolding text_in
text_step a = go (part_of a) refl
  where
    go : (q : Part) → part_of a ≡ q → by_part (λ k. text_in (length a) (drop k a)) q ≡ by_part (λ k. text_end (drop k a)) q
    go (p.Char c j) i = let s = part_size a c j i in ap (with_char c j) (same_in (length a) (suc (length (drop j a))) (drop j a) (shorter a j (length a) s.0 s.1 (omega arith)) (omega arith))
    go p.Close i = refl
    go p.Wrong i = refl
    go p.End i = refl

-- ---- the loop

-- these characters, which so many stand for, and what comes behind them
abbrev pub prefixed : List ℕ → ℕ → TextEnd → TextEnd
prefixed v n (e.Closed w m) = e.Closed (v ++ w) (n + m)
prefixed v n x = x

pushed : (v : List ℕ) (n c k : ℕ) (x : TextEnd) → prefixed v n (with_char c k x) ≡ prefixed (v ++ c ∷ []) (n + k) x
pushed v n c k (e.Closed w m) = let i : n + (k + m) ≡ n + k + m = omega arith in rw (i, append_assoc) refl
pushed v n c k e.Wrong = refl
pushed v n c k e.Open = refl

abbrev pub So : List ℕ → List ℕ → ℕ → Type 0
So a v n = text_end a ≡ prefixed v n (text_end (drop n a))

found : (a v : List ℕ) (n : ℕ) (q : Part) → So a v n → part_of (drop n a) ≡ q → text_end a ≡ prefixed v n (by_part (λ k. text_end (drop k (drop n a))) q)
found a v n q i h = i ∙ ap (prefixed v n) (text_step (drop n a) ∙ ap (by_part (λ k. text_end (drop k (drop n a)))) h)

pub more : (a v : List ℕ) (n c k : ℕ) → So a v n → part_of (drop n a) ≡ p.Char c k → So a (v ++ c ∷ []) (n + k)
more a v n c k i h = found a v n (p.Char c k) i h ∙ pushed v n c k (text_end (drop k (drop n a))) ∙ ap (λ z. prefixed (v ++ c ∷ []) (n + k) (text_end z)) (drop-drop k n a)

pub started : (a : List ℕ) → So a [] 0
started a = go (text_end a)
  where
    go : (x : TextEnd) → x ≡ prefixed [] 0 x
    go (e.Closed w m) = let i : m ≡ 0 + m = omega arith in ap (λ z. e.Closed w z) i
    go e.Wrong = refl
    go e.Open = refl

pub at_close : (a v : List ℕ) (n : ℕ) → So a v n → part_of (drop n a) ≡ p.Close → e.Closed v (n + 1) ≡ text_end a
at_close a v n i h = sym (found a v n p.Close i h ∙ ap (λ z. e.Closed z (n + 1)) (append_nil v))
  where
    append_nil : (v : List ℕ) → v ++ [] ≡ v
    append_nil [] = refl
    append_nil (c ∷ v) = ap (λ (z : List ℕ). c ∷ z) (append_nil v)

pub at_wrong : (a v : List ℕ) (n : ℕ) → So a v n → part_of (drop n a) ≡ p.Wrong → e.Wrong ≡ text_end a
at_wrong a v n i h = sym (found a v n p.Wrong i h)

pub at_open : (a v : List ℕ) (n : ℕ) → So a v n → part_of (drop n a) ≡ p.End → e.Open ≡ text_end a
at_open a v n i h = sym (found a v n p.End i h)
