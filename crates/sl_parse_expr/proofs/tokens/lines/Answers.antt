use Rattle.std.proofs.Common.{◌∙◌, sym, rules, arith, refl, Err}
use Rattle.std.proofs.lemmas.Grind.{common_steps}
use Rattle.sl_parse_expr.specs.declared.ahead.Ahead.TheVariants as see
use Rattle.sl_parse_expr.specs.Reading.{Reads, expect}
use Rattle.sl_parse_expr.proofs.Loops.{eats_of, goes_on, ends, fails_as}
use Rattle.sl_parse_expr.specs.Rules.{lines, at_line, one_more}
use Rattle.sl_parse_expr.proofs.Good.{newline}
use Rattle.sl_parse_expr.proofs.tokens.lines.Goals as goal

pub returns-in_err-expect : goal.returns-in_err-expect
returns-in_err-expect c =
    let h = sym c.offers.ensures ∙ c.turn-test.true in
    let f : Reads (lines c.args.tokens.now) (Err c.in_err-expect.field-0.0) c.expect.new.tokens = fails_as at_line (expect see.Newline) one_more (λ s. refl) (eats_of {P = λ _. expect see.Newline} 0 (newline 0) refl) (lines c.args.tokens.now) tt c.turn.tokens c.turn.invariant h c.in_err-expect.field-0.0 c.expect.new.tokens c.in_err-expect.ensures in
    first_of (search rules, grind (arith, common_steps))

pub turn-init : goal.turn-init
unfolding lines
turn-init c = refl

pub turn-smaller : goal.turn-smaller
turn-smaller c = (eats_of {P = λ _. expect see.Newline} 0 (newline 0) refl).eats c.turn.tokens _ c.expect.new.tokens c.in_ok-expect.ensures

pub turn-preserved : goal.turn-preserved
turn-preserved c =
    let h = sym c.offers.ensures ∙ c.turn-test.true in
    let f = goes_on at_line (expect see.Newline) one_more (λ s. refl) (eats_of {P = λ _. expect see.Newline} 0 (newline 0) refl) (lines c.args.tokens.now) tt c.turn.tokens c.turn.invariant h _ c.expect.new.tokens c.in_ok-expect.ensures in
    f

pub returns : goal.returns
returns c = ends at_line (expect see.Newline) one_more (λ s. refl) (eats_of {P = λ _. expect see.Newline} 0 (newline 0) refl) (lines c.args.tokens.now) tt c.turn.tokens c.turn.invariant (sym c.offers.ensures ∙ c.turn-test.false)
