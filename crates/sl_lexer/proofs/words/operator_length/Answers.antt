use Rattle.std.proofs.Common.{◌≡◌, ◌+◌, Some, true, drop, sym, ap, ◌∙◌, arith}
use Rattle.sl_lexer.specs.Characters.{first, goes_on, operator_len}
use Rattle.sl_lexer.proofs.Operators.{goes, less}
use Rattle.sl_lexer.proofs.words.operator_length.Goals as goal

pub turn-preserved : goal.turn-preserved
turn-preserved c =
    let here : first c.turn.cursor ≡ Some c.in-Some.c = cc in
    let h : goes_on c.in-Some.c (first (drop 1 c.turn.cursor)) ≡ true = ap (λ a. goes_on c.in-Some.c (first a)) (sym c.skip.ensures) ∙ ap (goes_on c.in-Some.c) (sym c.peek-in-Some.ensures) ∙ sym c.goes_on.ensures ∙ c.if-not-goes_on.false in
    let e : operator_len c.turn.cursor ≡ 1 + operator_len (drop 1 c.turn.cursor) = goes c.turn.cursor c.in-Some.c here h in
    let l = less c.turn.cursor c.in-Some.c here in
    rw c.skip.ensures (record { so_far = omega (arith, e, c.turn.invariant.so_far); read = omega (arith, l, c.turn.invariant.read) })
