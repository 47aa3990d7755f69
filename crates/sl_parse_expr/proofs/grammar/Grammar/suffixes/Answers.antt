use Rattle.std.proofs.Common.{◌∙◌, ap, sym, rules, arith, refl, Ok, Err, Some, None}
use Rattle.std.proofs.lemmas.Grind.{common_steps}
use Rattle.sl_parse_expr.specs.Reading.{Reads}
use Rattle.sl_parse_expr.proofs.Loops.{eats_of, goes_on, ends, fails_as}
use Rattle.sl_parse_expr.specs.Levels.{expr}
use Rattle.sl_parse_expr.specs.PatternRules.{pattern}
use Rattle.sl_parse_expr.specs.Rules.{suffixes, suffix, at_suffix, add_suffix}
use Rattle.sl_parse_expr.proofs.Level.{level, pattern_level}
use Rattle.sl_parse_expr.proofs.Good.{good_suffix, suffix_none}
use Rattle.sl_parse_expr.proofs.grammar.Grammar.suffixes.Goals as goal

pub returns-in_err-suffix : goal.returns-in_err-suffix
returns-in_err-suffix g c =
    let h = sym (c.goes_suffix.ensures c.turn.found) ∙ c.turn-test.true in
    let f : Reads (suffixes (expr c.args.self.now.depth) (pattern c.args.self.now.depth) c.args.all c.args.tokens.now) (Err c.in_err-suffix.field-0.0) c.suffix.new.tokens = fails_as at_suffix (suffix (expr c.args.self.now.depth) (pattern c.args.self.now.depth)) add_suffix suffix_none (eats_of c.args.self.now.depth (good_suffix c.args.self.now.depth expr pattern (level c.args.self.now.depth) (pattern_level c.args.self.now.depth)) refl) (suffixes (expr c.args.self.now.depth) (pattern c.args.self.now.depth) c.args.all c.args.tokens.now) (c.turn.chain, c.turn.found) c.turn.tokens c.turn.invariant h c.in_err-suffix.field-0.0 c.suffix.new.tokens c.in_err-suffix.ensures in
    first_of (search rules, grind (arith, common_steps))

pub turn-init : goal.turn-init
unfolding suffixes
turn-init g c = rw c.new-found.ensures (rw c.first-chain.ensures refl)

pub turn-smaller-in-Some : goal.turn-smaller-in-Some
turn-smaller-in-Some g c = (eats_of c.args.self.now.depth (good_suffix c.args.self.now.depth expr pattern (level c.args.self.now.depth) (pattern_level c.args.self.now.depth)) refl).eats c.turn.tokens _ c.suffix.new.tokens c.in_ok-suffix.ensures

pub turn-smaller : goal.turn-smaller
turn-smaller g c = (eats_of c.args.self.now.depth (good_suffix c.args.self.now.depth expr pattern (level c.args.self.now.depth) (pattern_level c.args.self.now.depth)) refl).eats c.turn.tokens _ c.suffix.new.tokens c.in_ok-suffix.ensures

pub turn-preserved-in-Some : goal.turn-preserved-in-Some
turn-preserved-in-Some g c =
    let h = sym (c.goes_suffix.ensures c.turn.found) ∙ c.turn-test.true in
    let f = goes_on at_suffix (suffix (expr c.args.self.now.depth) (pattern c.args.self.now.depth)) add_suffix suffix_none (eats_of c.args.self.now.depth (good_suffix c.args.self.now.depth expr pattern (level c.args.self.now.depth) (pattern_level c.args.self.now.depth)) refl) (suffixes (expr c.args.self.now.depth) (pattern c.args.self.now.depth) c.args.all c.args.tokens.now) (c.turn.chain, c.turn.found) c.turn.tokens c.turn.invariant h (Some c.in-Some.suffix) c.suffix.new.tokens (c.in_ok-suffix.ensures ∙ ap (λ z. Ok (z, c.suffix.new.tokens)) c.in-Some.is) in
    rw c.in_ok-push-in-Some.ensures.ok f

pub turn-preserved : goal.turn-preserved
turn-preserved g c =
    let h = sym (c.goes_suffix.ensures c.turn.found) ∙ c.turn-test.true in
    goes_on at_suffix (suffix (expr c.args.self.now.depth) (pattern c.args.self.now.depth)) add_suffix suffix_none (eats_of c.args.self.now.depth (good_suffix c.args.self.now.depth expr pattern (level c.args.self.now.depth) (pattern_level c.args.self.now.depth)) refl) (suffixes (expr c.args.self.now.depth) (pattern c.args.self.now.depth) c.args.all c.args.tokens.now) (c.turn.chain, c.turn.found) c.turn.tokens c.turn.invariant h None c.suffix.new.tokens (c.in_ok-suffix.ensures ∙ ap (λ z. Ok (z, c.suffix.new.tokens)) c.in-None.is)

pub returns : goal.returns
returns g c = ends at_suffix (suffix (expr c.args.self.now.depth) (pattern c.args.self.now.depth)) add_suffix suffix_none (eats_of c.args.self.now.depth (good_suffix c.args.self.now.depth expr pattern (level c.args.self.now.depth) (pattern_level c.args.self.now.depth)) refl) (suffixes (expr c.args.self.now.depth) (pattern c.args.self.now.depth) c.args.all c.args.tokens.now) (c.turn.chain, c.turn.found) c.turn.tokens c.turn.invariant (sym (c.goes_suffix.ensures c.turn.found) ∙ c.turn-test.false)
