use Rattle.std.proofs.Common.{◌∙◌, sym, rules, arith, refl, Err}
use Rattle.std.proofs.lemmas.Grind.{common_steps}
use Rattle.sl_parse_expr.specs.Reading.{Reads}
use Rattle.sl_parse_expr.specs.Rules.{added, at_comma}
use Rattle.sl_parse_expr.proofs.Loops.{eats_of, goes_on, ends, fails_as}
use Rattle.sl_parse_tmpl.specs.Rules.{more_params, next_param}
use Rattle.sl_parse_tmpl.proofs.Good.{good_next_param}
use Rattle.sl_parse_tmpl.proofs.params.more_params.Goals as goal

pub returns-in_err-next_param : goal.returns-in_err-next_param
returns-in_err-next_param c =
    let h = sym c.offers.ensures ∙ c.turn-test.true in
    let f : Reads (more_params c.args.first c.args.tokens.now) (Err c.in_err-next_param.field-0.0) c.next_param.new.tokens = fails_as at_comma next_param added (λ s. refl) (eats_of {P = λ _. next_param} 0 (good_next_param 0) refl) (more_params c.args.first c.args.tokens.now) c.turn.found c.turn.tokens c.turn.invariant h c.in_err-next_param.field-0.0 c.next_param.new.tokens c.in_err-next_param.ensures in
    first_of (search rules, grind (arith, common_steps))

pub turn-init : goal.turn-init
unfolding more_params
turn-init c = refl

pub turn-smaller : goal.turn-smaller
turn-smaller c = (eats_of {P = λ _. next_param} 0 (good_next_param 0) refl).eats c.turn.tokens _ c.next_param.new.tokens c.in_ok-next_param.ensures

pub turn-preserved : goal.turn-preserved
turn-preserved c =
    let h = sym c.offers.ensures ∙ c.turn-test.true in
    let f = goes_on at_comma next_param added (λ s. refl) (eats_of {P = λ _. next_param} 0 (good_next_param 0) refl) (more_params c.args.first c.args.tokens.now) c.turn.found c.turn.tokens c.turn.invariant h _ c.next_param.new.tokens c.in_ok-next_param.ensures in
    rw c.in_ok-push.ensures.ok f

pub returns : goal.returns
returns c = ends at_comma next_param added (λ s. refl) (eats_of {P = λ _. next_param} 0 (good_next_param 0) refl) (more_params c.args.first c.args.tokens.now) c.turn.found c.turn.tokens c.turn.invariant (sym c.offers.ensures ∙ c.turn-test.false)
