use Rattle.std.proofs.Common.{◌≡◌, ◌≢◌, ◌∙◌, ◌++◌, ◌∷◌, ◌+◌, ◌≤◌, ℕ, List, [], length, append-nil, ap, rules, arith, None}
use Rattle.std.specs.List.{AllByRecursion}
use Rattle.runs.specs.declared.turn.Turn.{Turn}
use Rattle.rt_trace.specs.Reading.{turn_in_front}
use Rattle.rt_trace.specs.Turns.{turns_text, IsTurn, AreTurns, IsFirstWrong}
use Rattle.rt_trace.proofs.Texts.{read_more, read_shorter, read_few, read_none, not_both, one_list, nil_from_length}
use Rattle.rt_trace.proofs.read_turns.Goals as goal

pub loop-rest-smaller : goal.loop-rest-smaller
loop-rest-smaller c = read_shorter c.loop-rest.rest.now c.in-Some.turn c.in-Some.after.now c.in-Some.ensures

pub loop-rest-preserved : goal.loop-rest-preserved
loop-rest-preserved c =
    let items : c.push.new.self.items ≡ c.loop-rest.turns.items ++ c.in-Some.turn ∷ [] = c.in_ok-push-in-Some.ensures.items in
    rw items (read_more c.args.bytes.now c.loop-rest.turns.items c.loop-rest.rest.now c.in-Some.turn c.in-Some.after.now c.in-Some.ensures c.loop-rest.invariant)

pub overflow_cast-result : goal.overflow_cast-result
overflow_cast-result c =
    let some : 1 ≤ length c.loop-rest.rest.now = search rules in
    omega (arith, read_few c.args.bytes.now c.loop-rest.turns.items c.loop-rest.rest.now c.loop-rest.invariant.0 some)

pub overflow_add-result : goal.overflow_add-result
overflow_add-result c =
    let some : 1 ≤ length c.loop-rest.rest.now = search rules in
    omega (arith, read_few c.args.bytes.now c.loop-rest.turns.items c.loop-rest.rest.now c.loop-rest.invariant.0 some)

wrong_line : (bytes : List ℕ) (turns : List Turn) (rest : List ℕ) (line : ℕ) → (bytes ≡ turns_text turns ++ rest) × AllByRecursion IsTurn turns → turn_in_front rest ≡ None
    → rest ≢ [] → line ≡ length turns → IsFirstWrong bytes (line + 1)
wrong_line bytes turns rest line so_far none some counted = record {
  before = turns;
  rest = rest;
  text = so_far.0;
  each = so_far.1;
  wrong = read_none rest none;
  some = some;
  counted = ap (λ n. n + 1) counted;
}

pub returns-in-None-clause-only : goal.returns-in-None-clause-only
returns-in-None-clause-only c = λ turns are.
    let some : c.loop-rest.rest.now ≢ [] = search rules in
    let count : c.len.result ≡ length c.loop-rest.turns.items = search rules in
    absurd (not_both c.args.bytes.now (c.len.result + 1) turns
    (wrong_line c.args.bytes.now c.loop-rest.turns.items c.loop-rest.rest.now c.len.result c.loop-rest.invariant c.in-None.ensures some count) are)

pub returns-in-None-clause-wrong : goal.returns-in-None-clause-wrong
returns-in-None-clause-wrong c =
    let some : c.loop-rest.rest.now ≢ [] = search rules in
    let count : c.len.result ≡ length c.loop-rest.turns.items = search rules in
    wrong_line c.args.bytes.now c.loop-rest.turns.items c.loop-rest.rest.now c.len.result c.loop-rest.invariant c.in-None.ensures some count

whole : (bytes : List ℕ) (turns : List Turn) (rest : List ℕ) → (bytes ≡ turns_text turns ++ rest) × AllByRecursion IsTurn turns → rest ≡ [] → AreTurns bytes turns
whole bytes turns rest so_far none = record {
  text = so_far.0 ∙ ap (λ xs. turns_text turns ++ xs) none ∙ append-nil (turns_text turns);
  each = so_far.1;
}

pub returns-clause-only : goal.returns-clause-only
returns-clause-only c = λ turns are.
    let zero : length c.loop-rest.rest.now ≡ 0 = search rules in
    let none : c.loop-rest.rest.now ≡ [] = nil_from_length c.loop-rest.rest.now zero in
    one_list c.args.bytes.now c.loop-rest.turns.items turns (whole c.args.bytes.now c.loop-rest.turns.items c.loop-rest.rest.now c.loop-rest.invariant none) are

pub returns-clause-found : goal.returns-clause-found
returns-clause-found c =
    let zero : length c.loop-rest.rest.now ≡ 0 = search rules in
    let none : c.loop-rest.rest.now ≡ [] = nil_from_length c.loop-rest.rest.now zero in
    whole c.args.bytes.now c.loop-rest.turns.items c.loop-rest.rest.now c.loop-rest.invariant none
