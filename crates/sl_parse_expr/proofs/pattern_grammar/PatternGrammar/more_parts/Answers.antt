use Rattle.std.proofs.Common.{◌∙◌, sym, rules, arith, refl, Err}
use Rattle.std.proofs.lemmas.Grind.{common_steps}
use Rattle.sl_parse_expr.specs.Reading.{Reads}
use Rattle.sl_parse_expr.proofs.Loops.{eats_of, goes_on, ends, fails_as}
use Rattle.sl_parse_expr.specs.PatternRules.{pattern, more_parts, next_part}
use Rattle.sl_parse_expr.specs.Rules.{at_comma, added}
use Rattle.sl_parse_expr.proofs.Level.{pattern_level}
use Rattle.sl_parse_expr.proofs.PatternGood.{good_next_part}
use Rattle.sl_parse_expr.proofs.pattern_grammar.PatternGrammar.more_parts.Goals as goal

pub returns-in_err-next_part : goal.returns-in_err-next_part
returns-in_err-next_part g c =
    let h = sym c.offers.ensures ∙ c.turn-test.true in
    let f : Reads (more_parts (pattern c.args.self.now.depth) c.args.first c.args.tokens.now) (Err c.in_err-next_part.field-0.0) c.next_part.new.tokens = fails_as at_comma (next_part (pattern c.args.self.now.depth)) added (λ s. refl) (eats_of c.args.self.now.depth (good_next_part c.args.self.now.depth pattern (pattern_level c.args.self.now.depth)) refl) (more_parts (pattern c.args.self.now.depth) c.args.first c.args.tokens.now) c.turn.found c.turn.tokens c.turn.invariant h c.in_err-next_part.field-0.0 c.next_part.new.tokens c.in_err-next_part.ensures in
    first_of (search rules, grind (arith, common_steps))

pub turn-init : goal.turn-init
unfolding more_parts
turn-init g c = refl

pub turn-smaller : goal.turn-smaller
turn-smaller g c = (eats_of c.args.self.now.depth (good_next_part c.args.self.now.depth pattern (pattern_level c.args.self.now.depth)) refl).eats c.turn.tokens _ c.next_part.new.tokens c.in_ok-next_part.ensures

pub turn-preserved : goal.turn-preserved
turn-preserved g c =
    let h = sym c.offers.ensures ∙ c.turn-test.true in
    let f = goes_on at_comma (next_part (pattern c.args.self.now.depth)) added (λ s. refl) (eats_of c.args.self.now.depth (good_next_part c.args.self.now.depth pattern (pattern_level c.args.self.now.depth)) refl) (more_parts (pattern c.args.self.now.depth) c.args.first c.args.tokens.now) c.turn.found c.turn.tokens c.turn.invariant h _ c.next_part.new.tokens c.in_ok-next_part.ensures in
    rw c.in_ok-push.ensures.ok f

pub returns : goal.returns
returns g c = ends at_comma (next_part (pattern c.args.self.now.depth)) added (λ s. refl) (eats_of c.args.self.now.depth (good_next_part c.args.self.now.depth pattern (pattern_level c.args.self.now.depth)) refl) (more_parts (pattern c.args.self.now.depth) c.args.first c.args.tokens.now) c.turn.found c.turn.tokens c.turn.invariant (sym c.offers.ensures ∙ c.turn-test.false)
