use Rattle.std.proofs.Common.{◌∙◌, sym, rules, arith, refl, Err}
use Rattle.std.proofs.lemmas.Grind.{common_steps}
use Rattle.sl_parse_expr.specs.Reading.{Reads}
use Rattle.sl_parse_expr.specs.Rules.{added}
use Rattle.sl_parse_expr.proofs.Loops.{eats_of, goes_on, ends, fails_as}
use Rattle.sl_parse_tmpl.specs.Rules.{class_words, class_modifier, at_class_modifier}
use Rattle.sl_parse_tmpl.proofs.Good.{good_class_modifier}
use Rattle.sl_parse_tmpl.proofs.modifiers.class_words.Goals as goal

pub returns-in_err-class_modifier : goal.returns-in_err-class_modifier
returns-in_err-class_modifier c =
    let h = sym (c.goes_class_modifier.ensures c.turn.found) ∙ c.turn-test.true in
    let f : Reads (class_words c.args.tokens.now) (Err c.in_err-class_modifier.field-0.0) c.class_modifier.new.tokens = fails_as at_class_modifier class_modifier added (λ s. refl) (eats_of {P = λ _. class_modifier} 0 (good_class_modifier 0) refl) (class_words c.args.tokens.now) c.turn.found c.turn.tokens c.turn.invariant h c.in_err-class_modifier.field-0.0 c.class_modifier.new.tokens c.in_err-class_modifier.ensures in
    first_of (search rules, grind (arith, common_steps))

pub turn-init : goal.turn-init
unfolding class_words
turn-init c = rw c.new-found.ensures refl

pub turn-smaller : goal.turn-smaller
turn-smaller c = (eats_of {P = λ _. class_modifier} 0 (good_class_modifier 0) refl).eats c.turn.tokens _ c.class_modifier.new.tokens c.in_ok-class_modifier.ensures

pub turn-preserved : goal.turn-preserved
turn-preserved c =
    let h = sym (c.goes_class_modifier.ensures c.turn.found) ∙ c.turn-test.true in
    let f = goes_on at_class_modifier class_modifier added (λ s. refl) (eats_of {P = λ _. class_modifier} 0 (good_class_modifier 0) refl) (class_words c.args.tokens.now) c.turn.found c.turn.tokens c.turn.invariant h _ c.class_modifier.new.tokens c.in_ok-class_modifier.ensures in
    rw c.in_ok-push.ensures.ok f

pub returns : goal.returns
returns c = ends at_class_modifier class_modifier added (λ s. refl) (eats_of {P = λ _. class_modifier} 0 (good_class_modifier 0) refl) (class_words c.args.tokens.now) c.turn.found c.turn.tokens c.turn.invariant (sym (c.goes_class_modifier.ensures c.turn.found) ∙ c.turn-test.false)
