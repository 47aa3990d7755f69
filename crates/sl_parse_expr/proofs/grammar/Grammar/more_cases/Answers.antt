use Rattle.std.proofs.Common.{◌∙◌, sym, rules, arith, refl, Err}
use Rattle.std.proofs.lemmas.Grind.{common_steps}
use Rattle.sl_parse_expr.specs.Reading.{Reads}
use Rattle.sl_parse_expr.proofs.Loops.{eats_of, goes_on, ends, fails_as}
use Rattle.sl_parse_expr.specs.Levels.{expr}
use Rattle.sl_parse_expr.specs.PatternRules.{pattern}
use Rattle.sl_parse_expr.specs.Rules.{more_cases, case_reader, at_case, added}
use Rattle.sl_parse_expr.proofs.Level.{level, pattern_level}
use Rattle.sl_parse_expr.proofs.Good.{good_case}
use Rattle.sl_parse_expr.proofs.grammar.Grammar.more_cases.Goals as goal

pub returns-in_err-case_reader : goal.returns-in_err-case_reader
returns-in_err-case_reader g c =
    let h = sym c.offers.ensures ∙ c.turn-test.true in
    let f : Reads (more_cases (expr c.args.self.now.depth) (pattern c.args.self.now.depth) c.args.tokens.now) (Err c.in_err-case_reader.field-0.0) c.case_reader.new.tokens = fails_as at_case (case_reader (expr c.args.self.now.depth) (pattern c.args.self.now.depth)) added (λ s. refl) (eats_of c.args.self.now.depth (good_case c.args.self.now.depth expr pattern (level c.args.self.now.depth) (pattern_level c.args.self.now.depth)) refl) (more_cases (expr c.args.self.now.depth) (pattern c.args.self.now.depth) c.args.tokens.now) c.turn.found c.turn.tokens c.turn.invariant h c.in_err-case_reader.field-0.0 c.case_reader.new.tokens c.in_err-case_reader.ensures in
    first_of (search rules, grind (arith, common_steps))

pub turn-init : goal.turn-init
unfolding more_cases
turn-init g c = rw c.new-found.ensures refl

pub turn-smaller : goal.turn-smaller
turn-smaller g c = (eats_of c.args.self.now.depth (good_case c.args.self.now.depth expr pattern (level c.args.self.now.depth) (pattern_level c.args.self.now.depth)) refl).eats c.turn.tokens _ c.case_reader.new.tokens c.in_ok-case_reader.ensures

pub turn-preserved : goal.turn-preserved
turn-preserved g c =
    let h = sym c.offers.ensures ∙ c.turn-test.true in
    let f = goes_on at_case (case_reader (expr c.args.self.now.depth) (pattern c.args.self.now.depth)) added (λ s. refl) (eats_of c.args.self.now.depth (good_case c.args.self.now.depth expr pattern (level c.args.self.now.depth) (pattern_level c.args.self.now.depth)) refl) (more_cases (expr c.args.self.now.depth) (pattern c.args.self.now.depth) c.args.tokens.now) c.turn.found c.turn.tokens c.turn.invariant h _ c.case_reader.new.tokens c.in_ok-case_reader.ensures in
    rw c.in_ok-push.ensures.ok f

pub returns : goal.returns
returns g c = ends at_case (case_reader (expr c.args.self.now.depth) (pattern c.args.self.now.depth)) added (λ s. refl) (eats_of c.args.self.now.depth (good_case c.args.self.now.depth expr pattern (level c.args.self.now.depth) (pattern_level c.args.self.now.depth)) refl) (more_cases (expr c.args.self.now.depth) (pattern c.args.self.now.depth) c.args.tokens.now) c.turn.found c.turn.tokens c.turn.invariant (sym c.offers.ensures ∙ c.turn-test.false)
