-- A text is that of one list of turns at most.
use Rattle.std.proofs.Common.{◌≡◌, ◌≢◌, ◌∙◌, ℕ, ◌+◌, ◌<◌, ◌≤◌, List, [], ◌∷◌, ◌++◌, length, Some, None, refl, sym, ap, subst, arith, append_assoc, append-nil}
use Rattle.std.specs.Prelude.{decimal}
use Rattle.std.specs.List.{AllByRecursion}
use Rattle.std.proofs.lemmas.Grind.{flat_map-append}
use Rattle.std.proofs.lemmas.List.{length-append}
use Rattle.runs.specs.declared.turn.Turn.{Turn}
use Rattle.rt_trace.specs.Reading.{turn_in_front}
use Rattle.rt_trace.specs.Turns.{turn_line, turns_text, IsTurn, AreTurns, NoTurn, IsFirstWrong}
use Rattle.rt_trace.proofs.Lines.{StartsWith, turn_read, turn_written}

some_pair : (p q : Turn × List ℕ) → Some p ≡ Some q → (p.0 ≡ q.0) × (p.1 ≡ q.1)
some_pair p q h = let same : p ≡ q = cc h in (ap (λ r. r.0) same, ap (λ r. r.1) same)

pub nil_from_length : (xs : List ℕ) → length xs ≡ 0 → xs ≡ []
nil_from_length [] none = refl
nil_from_length (x ∷ xs) none = absurd (omega arith)

-- what stands behind turns in a text of turns is a text of turns
pub behind : (before : List Turn) (rest : List ℕ) (turns : List Turn) → AllByRecursion IsTurn before → AllByRecursion IsTurn turns
    → turns_text before ++ rest ≡ turns_text turns → (after : List Turn) × (turns ≡ before ++ after) × (rest ≡ turns_text after) × AllByRecursion IsTurn after
behind [] rest turns each all is = (turns, refl, is, all)
behind (turn ∷ before) rest [] each all is =
    let joined : turn_in_front (turn_line turn ++ (turns_text before ++ rest)) ≡ Some (turn, turns_text before ++ rest) = turn_written turn (turns_text before ++ rest) each.0 in
    let none : turn_in_front [] ≡ Some (turn, turns_text before ++ rest) = subst (λ xs. turn_in_front xs ≡ Some (turn, turns_text before ++ rest)) (sym (append_assoc (turn_line turn) (turns_text before) rest) ∙ is) joined in
    absurd (cc none)
behind (turn ∷ before) rest (other ∷ turns) each all is =
    let one : turn_in_front (turn_line turn ++ (turns_text before ++ rest)) ≡ Some (turn, turns_text before ++ rest) = turn_written turn (turns_text before ++ rest) each.0 in
    let two : turn_in_front (turn_line other ++ turns_text turns) ≡ Some (other, turns_text turns) = turn_written other (turns_text turns) all.0 in
    let text : turn_line turn ++ (turns_text before ++ rest) ≡ turn_line other ++ turns_text turns = sym (append_assoc (turn_line turn) (turns_text before) rest) ∙ is in
    let both = some_pair (turn, turns_text before ++ rest) (other, turns_text turns) (sym one ∙ ap turn_in_front text ∙ two) in
    let found = behind before rest turns each.1 all.1 both.1 in
    (found.0, ap (λ t. t ∷ turns) (sym both.0) ∙ ap (λ ts. turn ∷ ts) found.1, found.2, found.3)

-- a line has its LF
line_length : (turn : Turn) → 1 ≤ length (turn_line turn)
line_length turn =
    let n : length (turn_line turn) ≡ length (decimal turn.thread ++ 32 ∷ decimal turn.count) + 1 = length-append (decimal turn.thread ++ 32 ∷ decimal turn.count) (10 ∷ []) in
    omega arith

-- so no two turns share a byte
turns_length : (turns : List Turn) → length turns ≤ length (turns_text turns)
turns_length [] = omega arith
turns_length (turn ∷ turns) =
    let n : length (turn_line turn ++ turns_text turns) ≡ length (turn_line turn) + length (turns_text turns) = length-append (turn_line turn) (turns_text turns) in
    let one : 1 ≤ length (turn_line turn) = line_length turn in
    let more : length turns ≤ length (turns_text turns) = turns_length turns in
    omega arith

all_push : (turns : List Turn) (turn : Turn) → AllByRecursion IsTurn turns → IsTurn turn → AllByRecursion IsTurn (turns ++ turn ∷ [])
all_push [] turn all is = (is, tt)
all_push (first ∷ turns) turn all is = (all.0, all_push turns turn all.1 is)

-- a further turn is read
pub read_more : (bytes : List ℕ) (turns : List Turn) (rest : List ℕ) (turn : Turn) (after : List ℕ) → turn_in_front rest ≡ Some (turn, after)
    → (bytes ≡ turns_text turns ++ rest) × AllByRecursion IsTurn turns → (bytes ≡ turns_text (turns ++ turn ∷ []) ++ after) × AllByRecursion IsTurn (turns ++ turn ∷ [])
read_more bytes turns rest turn after found so_far =
    let front : StartsWith rest (turn, after) = turn_read rest (turn, after) found in
    let texts : turns_text (turns ++ turn ∷ []) ≡ turns_text turns ++ turn_line turn =
    flat_map-append turn_line turns (turn ∷ []) ∙ ap (λ xs. turns_text turns ++ xs) (append-nil (turn_line turn)) in (
      so_far.0 ∙ ap (λ xs. turns_text turns ++ xs) front.0 ∙ sym (append_assoc (turns_text turns) (turn_line turn) after) ∙ ap (λ xs. xs ++ after) (sym texts),
      all_push turns turn so_far.1 front.1,
    )

-- and what is left is shorter
pub read_shorter : (rest : List ℕ) (turn : Turn) (after : List ℕ) → turn_in_front rest ≡ Some (turn, after) → length after < length rest
read_shorter rest turn after found =
    let front : StartsWith rest (turn, after) = turn_read rest (turn, after) found in
    let n : length rest ≡ length (turn_line turn) + length after = ap length front.0 ∙ length-append (turn_line turn) after in
    let one : 1 ≤ length (turn_line turn) = line_length turn in
    omega arith

-- turns are fewer than bytes, where some are left
pub read_few : (bytes : List ℕ) (turns : List Turn) (rest : List ℕ) → bytes ≡ turns_text turns ++ rest → 1 ≤ length rest → length turns + 1 ≤ length bytes
read_few bytes turns rest text some =
    let n : length bytes ≡ length (turns_text turns) + length rest = ap length text ∙ length-append (turns_text turns) rest in
    let few : length turns ≤ length (turns_text turns) = turns_length turns in
    omega arith

-- nothing is read where no turn is in front
pub read_none : (rest : List ℕ) → turn_in_front rest ≡ None → NoTurn rest
read_none rest none turn after is text =
    let read : turn_in_front rest ≡ Some (turn, after) = ap turn_in_front text ∙ turn_written turn after is in
    cc (none, read)

left_over : (rest : List ℕ) (turns : List Turn) → rest ≡ turns_text turns → AllByRecursion IsTurn turns → NoTurn rest → rest ≢ [] → ⊥
left_over rest [] text each wrong some = some text
left_over rest (turn ∷ turns) text each wrong some = wrong turn (turns_text turns) each.0 text

no_text : (turns : List Turn) → [] ≡ turns_text turns → turns ≡ []
no_text [] text = refl
no_text (turn ∷ turns) text =
    let few : length (turn ∷ turns) ≤ length (turns_text (turn ∷ turns)) = turns_length (turn ∷ turns) in
    let none : 0 ≡ length (turns_text (turn ∷ turns)) = ap length text in
    absurd (omega arith)

-- no line of a text of turns is wrong
pub not_both : (bytes : List ℕ) (line : ℕ) (turns : List Turn) → IsFirstWrong bytes line → AreTurns bytes turns → ⊥
not_both bytes line turns wrong are =
    let found = behind wrong.before wrong.rest turns wrong.each are.each (sym wrong.text ∙ are.text) in
    left_over wrong.rest found.0 found.2 found.3 wrong.wrong wrong.some

-- bytes are the text of one list of turns at most
pub one_list : (bytes : List ℕ) (turns others : List Turn) → AreTurns bytes turns → AreTurns bytes others → turns ≡ others
one_list bytes turns others are too =
    let found = behind turns [] others are.each too.each (append-nil (turns_text turns) ∙ sym are.text ∙ too.text) in
    sym (found.1 ∙ ap (λ xs. turns ++ xs) (no_text found.0 found.2) ∙ append-nil turns)
