use Rattle.std.proofs.Common.{◌∙◌, sym, rules, arith, refl, Err}
use Rattle.std.proofs.lemmas.Grind.{common_steps}
use Rattle.sl_parse_expr.specs.Reading.{Reads}
use Rattle.sl_parse_expr.specs.Rules.{added}
use Rattle.sl_parse_expr.proofs.Loops.{eats_of, goes_on, ends, fails_as}
use Rattle.sl_parse_tmpl.specs.Rules.{traits, next_trait, at_with}
use Rattle.sl_parse_tmpl.proofs.Good.{good_next_trait}
use Rattle.sl_parse_tmpl.proofs.templates.traits.Goals as goal

pub returns-in_err-next_trait : goal.returns-in_err-next_trait
returns-in_err-next_trait c =
    let h = sym c.offers.ensures ∙ c.turn-test.true in
    let f : Reads (traits c.args.tokens.now) (Err c.in_err-next_trait.field-0.0) c.next_trait.new.tokens = fails_as at_with next_trait added (λ s. refl) (eats_of {P = λ _. next_trait} 0 (good_next_trait 0) refl) (traits c.args.tokens.now) c.turn.found c.turn.tokens c.turn.invariant h c.in_err-next_trait.field-0.0 c.next_trait.new.tokens c.in_err-next_trait.ensures in
    first_of (search rules, grind (arith, common_steps))

pub turn-init : goal.turn-init
unfolding traits
turn-init c = rw c.new-found.ensures refl

pub turn-smaller : goal.turn-smaller
turn-smaller c = (eats_of {P = λ _. next_trait} 0 (good_next_trait 0) refl).eats c.turn.tokens _ c.next_trait.new.tokens c.in_ok-next_trait.ensures

pub turn-preserved : goal.turn-preserved
turn-preserved c =
    let h = sym c.offers.ensures ∙ c.turn-test.true in
    let f = goes_on at_with next_trait added (λ s. refl) (eats_of {P = λ _. next_trait} 0 (good_next_trait 0) refl) (traits c.args.tokens.now) c.turn.found c.turn.tokens c.turn.invariant h _ c.next_trait.new.tokens c.in_ok-next_trait.ensures in
    rw c.in_ok-push.ensures.ok f

pub returns : goal.returns
returns c = ends at_with next_trait added (λ s. refl) (eats_of {P = λ _. next_trait} 0 (good_next_trait 0) refl) (traits c.args.tokens.now) c.turn.found c.turn.tokens c.turn.invariant (sym c.offers.ensures ∙ c.turn-test.false)
