use Rattle.std.proofs.Common.{◌≡◌, true, false, Some, drop, sym, ◌∙◌, ap, refl, arith}
use Rattle.sl_lexer.specs.Characters.{first}
use Rattle.sl_lexer.specs.Comment.{closes, opens, comment_end}
use Rattle.sl_lexer.proofs.Nested.{last, closed_one, at_open, at_other, no_char, two_less, some_closes, some_opens}
use Rattle.sl_lexer.proofs.comments.scan.Goals as goal

pub returns-then-depth-eq0 : goal.returns-then-depth-eq0
returns-then-depth-eq0 c =
    let here : first c.turn.cursor ≡ Some c.in-Some.c = cc in
    let h : closes c.in-Some.c (first (drop 1 c.turn.cursor)) ≡ true = ap (λ cs. closes c.in-Some.c (first cs)) (sym c.skip.ensures) ∙ ap (closes c.in-Some.c) (sym c.peek-next.ensures) ∙ sym c.closes.ensures ∙ c.if-closes.true in
    let e = last c.turn.depth c.in-Some.c c.turn.cursor (comment_end 0 c.args.cursor.now) here c.turn.invariant.0 (omega arith) h in
    rw e (refl, c.skip-then-closes.ensures ∙ ap (drop 1) c.skip.ensures)

pub turn-preserved-then-closes : goal.turn-preserved-then-closes
turn-preserved-then-closes c =
    let here : first c.turn.cursor ≡ Some c.in-Some.c = cc in
    let h : closes c.in-Some.c (first (drop 1 c.turn.cursor)) ≡ true = ap (λ cs. closes c.in-Some.c (first cs)) (sym c.skip.ensures) ∙ ap (closes c.in-Some.c) (sym c.peek-next.ensures) ∙ sym c.closes.ensures ∙ c.if-closes.true in
    let e = closed_one c.turn.depth c.in-Some.c c.turn.cursor (comment_end 0 c.args.cursor.now) here c.turn.invariant.0 (λ z. absurd (omega arith)) h in
    let d = some_closes c.in-Some.c (first (drop 1 c.turn.cursor)) h in
    let l = two_less c.in-Some.c c.turn.cursor here in
    let m = two_less d.0 (drop 1 c.turn.cursor) d.1 in
    rw (c.skip-then-closes.ensures, c.skip.ensures) (e, omega arith)

pub turn-preserved-then-opens : goal.turn-preserved-then-opens
turn-preserved-then-opens c =
    let here : first c.turn.cursor ≡ Some c.in-Some.c = cc in
    let h : closes c.in-Some.c (first (drop 1 c.turn.cursor)) ≡ false = ap (λ cs. closes c.in-Some.c (first cs)) (sym c.skip.ensures) ∙ ap (closes c.in-Some.c) (sym c.peek-next.ensures) ∙ sym c.closes.ensures ∙ c.if-closes.false in
    let k : opens c.in-Some.c (first (drop 1 c.turn.cursor)) ≡ true = ap (λ cs. opens c.in-Some.c (first cs)) (sym c.skip.ensures) ∙ ap (opens c.in-Some.c) (sym c.peek-next.ensures) ∙ sym c.opens.ensures ∙ c.if-opens.true in
    let d = some_opens c.in-Some.c (first (drop 1 c.turn.cursor)) k in
    let l = two_less c.in-Some.c c.turn.cursor here in
    let m = two_less d.0 (drop 1 c.turn.cursor) d.1 in
    rw (c.skip-then-opens.ensures, c.skip.ensures) (c.turn.invariant.0 ∙ at_open c.turn.depth c.in-Some.c c.turn.cursor here h k, omega arith)

pub turn-preserved : goal.turn-preserved
turn-preserved c =
    let here : first c.turn.cursor ≡ Some c.in-Some.c = cc in
    let h : closes c.in-Some.c (first (drop 1 c.turn.cursor)) ≡ false = ap (λ cs. closes c.in-Some.c (first cs)) (sym c.skip.ensures) ∙ ap (closes c.in-Some.c) (sym c.peek-next.ensures) ∙ sym c.closes.ensures ∙ c.if-closes.false in
    let k : opens c.in-Some.c (first (drop 1 c.turn.cursor)) ≡ false = ap (λ cs. opens c.in-Some.c (first cs)) (sym c.skip.ensures) ∙ ap (opens c.in-Some.c) (sym c.peek-next.ensures) ∙ sym c.opens.ensures ∙ c.if-opens.false in
    let l = two_less c.in-Some.c c.turn.cursor here in
    rw c.skip.ensures (c.turn.invariant.0 ∙ at_other c.turn.depth c.in-Some.c c.turn.cursor here h k, omega arith)

pub returns : goal.returns
returns c =
    let e = c.turn.invariant.0 ∙ no_char c.turn.depth c.turn.cursor (sym c.in_default.ensures) in
    rw e refl
