use Rattle.std.proofs.Common.{◌≡◌, ◌∙◌, ap, sym, rules, arith, refl, Ok, Err, true, false, List, [], ◌∷◌, Some, None, Bool, Option, ◌++◌}
use Rattle.std.proofs.lemmas.Grind.{common_steps}
use Rattle.sl_parse_expr.specs.Reading.{Reads, fold, clean}
use Rattle.sl_parse_expr.proofs.Loops.{eats_of, goes_on, ends, fails_as}
use Rattle.sl_parse_expr.specs.Levels.{expr}
use Rattle.sl_parse_expr.specs.PatternRules.{pattern}
use Rattle.sl_parse_expr.specs.Rules.{stats, block_item, at_item, add_item}
use Rattle.sl_parse_expr.proofs.Level.{level, pattern_level}
use Rattle.sl_parse_expr.proofs.Good.{good_block_item, item_none}
use Rattle.sl_parse_expr.specs.Starts.{begins_stat}
use mathlib.Core.Bool.{not}
use Rattle.sl_ast.specs.declared.block.Stat.{Stat}
use Rattle.sl_parse_expr.specs.Reading.{Reader, Outcome, State}
use Rattle.sl_parse_expr.proofs.grammar.Grammar.stats.Goals as goal

by_clean : (item : Reader (Option (Stat × Bool))) (total : Outcome (Bool × List Stat)) (s : Bool × List Stat) (st : State) (x : Stat) (clean_behind : Bool)
    → total ≡ fold (clean (at_item begins_stat)) item add_item (add_item s (Some (x, clean_behind))) st → total ≡ fold (clean (at_item begins_stat)) item add_item (not clean_behind, s.1 ++ x ∷ []) st
by_clean item total s st x true f = f
by_clean item total s st x false f = f

pub returns-in_err-stat : goal.returns-in_err-stat
returns-in_err-stat g c =
    let h = sym (c.goes_item.ensures c.turn.found) ∙ c.turn-test.true in
    let f : Reads (stats (expr c.args.self.now.depth) (pattern c.args.self.now.depth) c.args.tokens.now) (Err c.in_err-stat.field-0.0) c.block_item.new.tokens = fails_as (at_item begins_stat) (block_item (expr c.args.self.now.depth) (pattern c.args.self.now.depth)) add_item item_none (eats_of c.args.self.now.depth (good_block_item c.args.self.now.depth expr pattern (level c.args.self.now.depth) (pattern_level c.args.self.now.depth)) refl) (stats (expr c.args.self.now.depth) (pattern c.args.self.now.depth) c.args.tokens.now) (c.turn.apart, c.turn.found) c.turn.tokens c.turn.invariant h c.in_err-stat.field-0.0 c.block_item.new.tokens c.in_err-stat.ensures in
    first_of (search rules, grind (arith, common_steps))

pub turn-init : goal.turn-init
unfolding stats
turn-init g c = rw c.new-found.ensures refl

pub turn-smaller-in-Some : goal.turn-smaller-in-Some
turn-smaller-in-Some g c = (eats_of c.args.self.now.depth (good_block_item c.args.self.now.depth expr pattern (level c.args.self.now.depth) (pattern_level c.args.self.now.depth)) refl).eats c.turn.tokens _ c.block_item.new.tokens c.in_ok-stat.ensures

pub turn-smaller : goal.turn-smaller
turn-smaller g c = (eats_of c.args.self.now.depth (good_block_item c.args.self.now.depth expr pattern (level c.args.self.now.depth) (pattern_level c.args.self.now.depth)) refl).eats c.turn.tokens _ c.block_item.new.tokens c.in_ok-stat.ensures

pub turn-preserved-in-Some : goal.turn-preserved-in-Some
turn-preserved-in-Some g c =
    let h = sym (c.goes_item.ensures c.turn.found) ∙ c.turn-test.true in
    let f = goes_on (at_item begins_stat) (block_item (expr c.args.self.now.depth) (pattern c.args.self.now.depth)) add_item item_none (eats_of c.args.self.now.depth (good_block_item c.args.self.now.depth expr pattern (level c.args.self.now.depth) (pattern_level c.args.self.now.depth)) refl) (stats (expr c.args.self.now.depth) (pattern c.args.self.now.depth) c.args.tokens.now) (c.turn.apart, c.turn.found) c.turn.tokens c.turn.invariant h (Some (c.in-Some.stat, c.in-Some.clean)) c.block_item.new.tokens (c.in_ok-stat.ensures ∙ ap (λ z. Ok (z, c.block_item.new.tokens)) c.in-Some.is) in
    rw c.in_ok-push-in-Some.ensures.ok (by_clean (block_item (expr c.args.self.now.depth) (pattern c.args.self.now.depth)) (stats (expr c.args.self.now.depth) (pattern c.args.self.now.depth) c.args.tokens.now) (c.turn.apart, c.turn.found) c.block_item.new.tokens c.in-Some.stat c.in-Some.clean f)

pub turn-preserved : goal.turn-preserved
turn-preserved g c =
    let h = sym (c.goes_item.ensures c.turn.found) ∙ c.turn-test.true in
    goes_on (at_item begins_stat) (block_item (expr c.args.self.now.depth) (pattern c.args.self.now.depth)) add_item item_none (eats_of c.args.self.now.depth (good_block_item c.args.self.now.depth expr pattern (level c.args.self.now.depth) (pattern_level c.args.self.now.depth)) refl) (stats (expr c.args.self.now.depth) (pattern c.args.self.now.depth) c.args.tokens.now) (c.turn.apart, c.turn.found) c.turn.tokens c.turn.invariant h None c.block_item.new.tokens (c.in_ok-stat.ensures ∙ ap (λ z. Ok (z, c.block_item.new.tokens)) c.in-None.is)

pub returns : goal.returns
returns g c = ends (at_item begins_stat) (block_item (expr c.args.self.now.depth) (pattern c.args.self.now.depth)) add_item item_none (eats_of c.args.self.now.depth (good_block_item c.args.self.now.depth expr pattern (level c.args.self.now.depth) (pattern_level c.args.self.now.depth)) refl) (stats (expr c.args.self.now.depth) (pattern c.args.self.now.depth) c.args.tokens.now) (c.turn.apart, c.turn.found) c.turn.tokens c.turn.invariant (sym (c.goes_item.ensures c.turn.found) ∙ c.turn-test.false)
