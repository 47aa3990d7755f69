use Rattle.std.proofs.Common.{◌∙◌, sym, rules, arith, refl, Err}
use Rattle.std.proofs.lemmas.Grind.{common_steps}
use Rattle.sl_parse_expr.specs.Reading.{Reads}
use Rattle.sl_parse_expr.proofs.Loops.{eats_of, goes_on, ends, fails_as}
use Rattle.sl_parse_expr.specs.PatternRules.{pattern, more_alternatives, next_alternative}
use Rattle.sl_parse_expr.specs.Rules.{at_bar, added}
use Rattle.sl_parse_expr.proofs.Level.{pattern_level}
use Rattle.sl_parse_expr.proofs.PatternGood.{good_next_alternative}
use Rattle.sl_parse_expr.proofs.pattern_grammar.PatternGrammar.more_alternatives.Goals as goal

pub returns-in_err-next_alternative : goal.returns-in_err-next_alternative
returns-in_err-next_alternative g c =
    let h = sym c.offers.ensures ∙ c.turn-test.true in
    let f : Reads (more_alternatives (pattern c.args.self.now.depth) c.args.tokens.now) (Err c.in_err-next_alternative.field-0.0) c.next_alternative.new.tokens = fails_as at_bar (next_alternative (pattern c.args.self.now.depth)) added (λ s. refl) (eats_of c.args.self.now.depth (good_next_alternative c.args.self.now.depth pattern (pattern_level c.args.self.now.depth)) refl) (more_alternatives (pattern c.args.self.now.depth) c.args.tokens.now) c.turn.found c.turn.tokens c.turn.invariant h c.in_err-next_alternative.field-0.0 c.next_alternative.new.tokens c.in_err-next_alternative.ensures in
    first_of (search rules, grind (arith, common_steps))

pub turn-init : goal.turn-init
unfolding more_alternatives
turn-init g c = rw c.new-found.ensures refl

pub turn-smaller : goal.turn-smaller
turn-smaller g c = (eats_of c.args.self.now.depth (good_next_alternative c.args.self.now.depth pattern (pattern_level c.args.self.now.depth)) refl).eats c.turn.tokens _ c.next_alternative.new.tokens c.in_ok-next_alternative.ensures

pub turn-preserved : goal.turn-preserved
turn-preserved g c =
    let h = sym c.offers.ensures ∙ c.turn-test.true in
    let f = goes_on at_bar (next_alternative (pattern c.args.self.now.depth)) added (λ s. refl) (eats_of c.args.self.now.depth (good_next_alternative c.args.self.now.depth pattern (pattern_level c.args.self.now.depth)) refl) (more_alternatives (pattern c.args.self.now.depth) c.args.tokens.now) c.turn.found c.turn.tokens c.turn.invariant h _ c.next_alternative.new.tokens c.in_ok-next_alternative.ensures in
    rw c.in_ok-push.ensures.ok f

pub returns : goal.returns
returns g c = ends at_bar (next_alternative (pattern c.args.self.now.depth)) added (λ s. refl) (eats_of c.args.self.now.depth (good_next_alternative c.args.self.now.depth pattern (pattern_level c.args.self.now.depth)) refl) (more_alternatives (pattern c.args.self.now.depth) c.args.tokens.now) c.turn.found c.turn.tokens c.turn.invariant (sym c.offers.ensures ∙ c.turn-test.false)
