-- The line of a turn that is read is the one that is written.
use Rattle.std.proofs.Common.{◌≡◌, ◌∙◌, ℕ, ◌<◌, ◌≤◌, ◌^◌, Bool, true, false, cond, List, [], ◌∷◌, ◌++◌, Option, Some, None, refl, sym, ap, subst, arith, append_assoc, append-nil}
use Rattle.std.specs.Prelude.{decimal, ◌==◌, option_map, option_and_then}
use Rattle.std.specs.Char.{is_ascii_digit}
use Rattle.std.specs.Str.{all_ascii_digits}
use Rattle.std.proofs.lemmas.Bool.{eqb-true, eq-eqb}
use Rattle.std.proofs.lemmas.Bool.Decides.{nat_tests}
use Rattle.runs.specs.declared.turn.Turn.{Turn}
use Rattle.rt_trace.specs.Reading.{cut, number_of, number_before, turn_before, turn_in_front}
use Rattle.rt_trace.specs.Turns.{turn_line, IsTurn}
use Rattle.rt_trace.proofs.Numerals.{and_left, and_right, read_number, written_number, decimal_digits}

-- a cut before a byte that is no digit, behind digits
digit_apart : (end d : ℕ) → end < 48 → is_ascii_digit d ≡ true → (d == end) ≡ false
digit_apart end d small h = grind (arith, nat_tests)

cut_digits : (end : ℕ) (before ds after : List ℕ) → end < 48 → all_ascii_digits ds ≡ true → cut end before (ds ++ end ∷ after) ≡ Some (before ++ ds, after)
cut_digits end before [] after small h =
    ap (λ b. cond b (Some (before, after)) (cut end (before ++ end ∷ []) after)) (eq-eqb end end refl) ∙ ap (λ xs. Some (xs, after)) (sym (append-nil before))
cut_digits end before (d ∷ ds) after small h =
    ap (λ b. cond b (Some (before, ds ++ end ∷ after)) (cut end (before ++ d ∷ []) (ds ++ end ∷ after))) (digit_apart end d small (and_left (is_ascii_digit d) (all_ascii_digits ds) h))
    ∙ cut_digits end (before ++ d ∷ []) ds after small (and_right (is_ascii_digit d) (all_ascii_digits ds) h)
    ∙ ap (λ xs. Some (xs, after)) (append_assoc before (d ∷ []) ds)

-- what a cut gives
abbrev IsCut : ℕ → List ℕ → List ℕ → List ℕ × List ℕ → Type 0
IsCut end before bytes p = (ds : List ℕ) × (p.0 ≡ before ++ ds) × (bytes ≡ ds ++ end ∷ p.1)

cut_step : (end : ℕ) (before : List ℕ) (byte : ℕ) (bytes : List ℕ) (p : List ℕ × List ℕ) (t : Bool) → (byte == end) ≡ t
    → cond t (Some (before, bytes)) (cut end (before ++ byte ∷ []) bytes) ≡ Some p
    → (cut end (before ++ byte ∷ []) bytes ≡ Some p → IsCut end (before ++ byte ∷ []) bytes p)
    → IsCut end before (byte ∷ bytes) p
cut_step end before byte bytes p true test h further =
    let is : byte ≡ end = eqb-true byte end test in
    let first : before ≡ p.0 = cc h in
    let behind : bytes ≡ p.1 = cc h in
    ([], sym first ∙ sym (append-nil before), ap (λ b. b ∷ bytes) is ∙ ap (λ xs. end ∷ xs) behind)
cut_step end before byte bytes p false test h further =
    let found : IsCut end (before ++ byte ∷ []) bytes p = further h in
    (byte ∷ found.0, found.1 ∙ append_assoc before (byte ∷ []) found.0, ap (λ xs. byte ∷ xs) found.2)

cut_gives : (end : ℕ) (before bytes : List ℕ) (p : List ℕ × List ℕ) → cut end before bytes ≡ Some p → IsCut end before bytes p
cut_gives end before [] p h = absurd (cc h)
cut_gives end before (byte ∷ bytes) p h = cut_step end before byte bytes p (byte == end) refl h (cut_gives end (before ++ byte ∷ []) bytes p)

-- what is in front of a text where a number was read
abbrev StartsSo : ℕ → List ℕ → ℕ × List ℕ → Type 0
StartsSo end bytes found = (bytes ≡ decimal found.0 ++ end ∷ found.1) × (1 ≤ found.0) × (found.0 < 2 ^ 32)

number_found : (end : ℕ) (bytes : List ℕ) (p : List ℕ × List ℕ) (found : ℕ × List ℕ) → cut end [] bytes ≡ Some p → (o : Option ℕ) → number_of p.0 ≡ o
    → option_map (λ n. (n, p.1)) o ≡ Some found → StartsSo end bytes found
number_found end bytes p found at None is h = absurd (cc h)
number_found end bytes p found at (Some n) is h =
    let read = read_number p.0 n is in
    let number : n ≡ found.0 = cc h in
    let behind : p.1 ≡ found.1 = cc h in
    let parts : IsCut end [] bytes p = cut_gives end [] bytes p at in
    let digits : decimal n ≡ parts.0 = read.0 ∙ parts.1 in
    subst (λ m. (bytes ≡ decimal m ++ end ∷ found.1) × (1 ≤ m) × (m < 2 ^ 32)) number
    (parts.2 ∙ ap (λ xs. xs ++ end ∷ p.1) (sym digits) ∙ ap (λ xs. decimal n ++ end ∷ xs) behind, read.1, read.2)

number_cut : (end : ℕ) (bytes : List ℕ) (found : ℕ × List ℕ) (o : Option (List ℕ × List ℕ)) → cut end [] bytes ≡ o
    → option_and_then (λ parts. option_map (λ n. (n, parts.1)) (number_of parts.0)) o ≡ Some found → StartsSo end bytes found
number_cut end bytes found None at h = absurd (cc h)
number_cut end bytes found (Some p) at h = number_found end bytes p found at (number_of p.0) refl h

number_read : (end : ℕ) (bytes : List ℕ) (found : ℕ × List ℕ) → number_before end bytes ≡ Some found → StartsSo end bytes found
number_read end bytes found h = number_cut end bytes found (cut end [] bytes) refl h

number_written : (end n : ℕ) (after : List ℕ) → end < 48 → 1 ≤ n → n < 2 ^ 32 → number_before end (decimal n ++ end ∷ after) ≡ Some (n, after)
number_written end n after small above below =
    ap (option_and_then (λ parts. option_map (λ n. (n, parts.1)) (number_of parts.0))) (cut_digits end [] (decimal n) after small (decimal_digits n below))
    ∙ ap (option_map (λ n. (n, after))) (written_number n above below)

line_joined : (a b after : List ℕ) → (a ++ 32 ∷ b ++ 10 ∷ []) ++ after ≡ a ++ 32 ∷ (b ++ 10 ∷ after)
line_joined a b after = simp append_assoc

-- what is in front of a text where a turn was read
abbrev pub StartsWith : List ℕ → Turn × List ℕ → Type 0
StartsWith bytes found = (bytes ≡ turn_line found.0 ++ found.1) × IsTurn found.0

turn_second : (thread : ℕ) (bytes rest : List ℕ) (found : Turn × List ℕ) → bytes ≡ decimal thread ++ 32 ∷ rest → 1 ≤ thread → thread < 2 ^ 32
    → (o : Option (ℕ × List ℕ)) → number_before 10 rest ≡ o → option_map (λ next. (record { thread = thread; count = next.0 }, next.1)) o ≡ Some found
    → StartsWith bytes found
turn_second thread bytes rest found is above below None at h = absurd (cc h)
turn_second thread bytes rest found is above below (Some next) at h =
    let read : StartsSo 10 rest next = number_read 10 rest next at in
    let turn : Turn = record { thread = thread; count = next.0 } in
    let same : (turn, next.1) ≡ found = cc h in
    subst (StartsWith bytes) same (
      is ∙ ap (λ xs. decimal thread ++ 32 ∷ xs) read.0 ∙ sym (line_joined (decimal thread) (decimal next.0) next.1),
      record { thread = (above, below); count = (read.1, read.2) },
    )

turn_first : (bytes : List ℕ) (found : Turn × List ℕ) (o : Option (ℕ × List ℕ)) → number_before 32 bytes ≡ o
    → option_and_then (λ first. turn_before first.0 first.1) o ≡ Some found → StartsWith bytes found
turn_first bytes found None at h = absurd (cc h)
turn_first bytes found (Some first) at h =
    let read : StartsSo 32 bytes first = number_read 32 bytes first at in
    turn_second first.0 bytes first.1 found read.0 read.1 read.2 (number_before 10 first.1) refl h

-- a turn that is read stands in front
pub turn_read : (bytes : List ℕ) (found : Turn × List ℕ) → turn_in_front bytes ≡ Some found → StartsWith bytes found
turn_read bytes found h = turn_first bytes found (number_before 32 bytes) refl h

-- a turn that stands in front is read
pub turn_written : (turn : Turn) (after : List ℕ) → IsTurn turn → turn_in_front (turn_line turn ++ after) ≡ Some (turn, after)
turn_written turn after is =
    ap turn_in_front (line_joined (decimal turn.thread) (decimal turn.count) after)
    ∙ ap (option_and_then (λ first. turn_before first.0 first.1)) (number_written 32 turn.thread (decimal turn.count ++ 10 ∷ after) (omega arith) is.thread.0 is.thread.1)
    ∙ ap (option_map (λ next. (record { thread = turn.thread; count = next.0 }, next.1))) (number_written 10 turn.count after (omega arith) is.count.0 is.count.1)
