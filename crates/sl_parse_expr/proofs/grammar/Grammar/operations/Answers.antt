use Rattle.std.proofs.Common.{◌∙◌, sym, rules, arith, refl, Err}
use Rattle.std.proofs.lemmas.Grind.{common_steps}
use Rattle.sl_parse_expr.specs.Reading.{Reads}
use Rattle.sl_parse_expr.proofs.Loops.{eats_of, goes_on, ends, fails_as}
use Rattle.sl_parse_expr.specs.Levels.{expr}
use Rattle.sl_parse_expr.specs.PatternRules.{pattern}
use Rattle.sl_parse_expr.specs.Rules.{operations, operation, at_operator, added}
use Rattle.sl_parse_expr.proofs.Level.{level, pattern_level}
use Rattle.sl_parse_expr.proofs.Good.{good_operation}
use Rattle.sl_parse_expr.proofs.grammar.Grammar.operations.Goals as goal

pub returns-in_err-operation : goal.returns-in_err-operation
returns-in_err-operation g c =
    let h = sym (c.goes_operation.ensures c.turn.found) ∙ c.turn-test.true in
    let f : Reads (operations (expr c.args.self.now.depth) (pattern c.args.self.now.depth) c.args.tokens.now) (Err c.in_err-operation.field-0.0) c.operation.new.tokens = fails_as at_operator (operation (expr c.args.self.now.depth) (pattern c.args.self.now.depth)) added (λ s. refl) (eats_of c.args.self.now.depth (good_operation c.args.self.now.depth expr pattern (level c.args.self.now.depth) (pattern_level c.args.self.now.depth)) refl) (operations (expr c.args.self.now.depth) (pattern c.args.self.now.depth) c.args.tokens.now) c.turn.found c.turn.tokens c.turn.invariant h c.in_err-operation.field-0.0 c.operation.new.tokens c.in_err-operation.ensures in
    first_of (search rules, grind (arith, common_steps))

pub turn-init : goal.turn-init
unfolding operations
turn-init g c = rw c.new-found.ensures refl

pub turn-smaller : goal.turn-smaller
turn-smaller g c = (eats_of c.args.self.now.depth (good_operation c.args.self.now.depth expr pattern (level c.args.self.now.depth) (pattern_level c.args.self.now.depth)) refl).eats c.turn.tokens _ c.operation.new.tokens c.in_ok-operation.ensures

pub turn-preserved : goal.turn-preserved
turn-preserved g c =
    let h = sym (c.goes_operation.ensures c.turn.found) ∙ c.turn-test.true in
    let f = goes_on at_operator (operation (expr c.args.self.now.depth) (pattern c.args.self.now.depth)) added (λ s. refl) (eats_of c.args.self.now.depth (good_operation c.args.self.now.depth expr pattern (level c.args.self.now.depth) (pattern_level c.args.self.now.depth)) refl) (operations (expr c.args.self.now.depth) (pattern c.args.self.now.depth) c.args.tokens.now) c.turn.found c.turn.tokens c.turn.invariant h _ c.operation.new.tokens c.in_ok-operation.ensures in
    rw c.in_ok-push.ensures.ok f

pub returns : goal.returns
returns g c = ends at_operator (operation (expr c.args.self.now.depth) (pattern c.args.self.now.depth)) added (λ s. refl) (eats_of c.args.self.now.depth (good_operation c.args.self.now.depth expr pattern (level c.args.self.now.depth) (pattern_level c.args.self.now.depth)) refl) (operations (expr c.args.self.now.depth) (pattern c.args.self.now.depth) c.args.tokens.now) c.turn.found c.turn.tokens c.turn.invariant (sym (c.goes_operation.ensures c.turn.found) ∙ c.turn-test.false)
