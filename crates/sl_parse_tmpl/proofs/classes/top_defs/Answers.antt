use Rattle.std.proofs.Common.{◌≡◌, ◌∙◌, ap, sym, rules, arith, refl, Ok, Err, true, false, List, [], ◌∷◌, Some, None, Bool, Option, ◌++◌}
use Rattle.std.proofs.lemmas.Grind.{common_steps}
use mathlib.Core.Bool.{not}
use Rattle.sl_ast.specs.declared.unit.TopDef.{TopDef}
use Rattle.sl_parse_expr.specs.Reading.{Reads, Reader, Outcome, State, fold, clean}
use Rattle.sl_parse_expr.specs.Rules.{at_item, add_item}
use Rattle.sl_parse_expr.proofs.Loops.{eats_of, goes_on, ends, fails_as}
use Rattle.sl_parse_expr.specs.Levels.{expr}
use Rattle.sl_parse_expr.specs.PatternRules.{pattern}
use Rattle.sl_parse_tmpl.specs.Words.{begins_top}
use Rattle.sl_parse_tmpl.specs.Rules.{top_defs, unit_item}
use Rattle.sl_parse_tmpl.proofs.Good.{good_unit_item, top_none}
use Rattle.sl_parse_tmpl.proofs.classes.top_defs.Goals as goal

by_clean : (item : Reader (Option (TopDef × Bool))) (total : Outcome (Bool × List TopDef)) (s : Bool × List TopDef) (st : State) (x : TopDef) (clean_behind : Bool)
    → total ≡ fold (clean (at_item begins_top)) item add_item (add_item s (Some (x, clean_behind))) st → total ≡ fold (clean (at_item begins_top)) item add_item (not clean_behind, s.1 ++ x ∷ []) st
by_clean item total s st x true f = f
by_clean item total s st x false f = f

pub returns-in_err-def : goal.returns-in_err-def
returns-in_err-def c =
    let h = sym (c.goes_top.ensures c.turn.found) ∙ c.turn-test.true in
    let f : Reads (top_defs (expr c.args.depth) (pattern c.args.depth) c.args.tokens.now) (Err c.in_err-def.field-0.0) c.unit_item.new.tokens = fails_as (at_item begins_top) (unit_item (expr c.args.depth) (pattern c.args.depth)) add_item (top_none c.args.depth) (eats_of c.args.depth (good_unit_item c.args.depth) refl) (top_defs (expr c.args.depth) (pattern c.args.depth) c.args.tokens.now) (c.turn.apart, c.turn.found) c.turn.tokens c.turn.invariant h c.in_err-def.field-0.0 c.unit_item.new.tokens c.in_err-def.ensures in
    first_of (search rules, grind (arith, common_steps))

pub turn-init : goal.turn-init
unfolding top_defs
turn-init c = rw c.new-found.ensures refl

pub turn-smaller-in-Some : goal.turn-smaller-in-Some
turn-smaller-in-Some c = (eats_of c.args.depth (good_unit_item c.args.depth) refl).eats c.turn.tokens _ c.unit_item.new.tokens c.in_ok-def.ensures

pub turn-smaller : goal.turn-smaller
turn-smaller c = (eats_of c.args.depth (good_unit_item c.args.depth) refl).eats c.turn.tokens _ c.unit_item.new.tokens c.in_ok-def.ensures

pub turn-preserved-in-Some : goal.turn-preserved-in-Some
turn-preserved-in-Some c =
    let h = sym (c.goes_top.ensures c.turn.found) ∙ c.turn-test.true in
    let f = goes_on (at_item begins_top) (unit_item (expr c.args.depth) (pattern c.args.depth)) add_item (top_none c.args.depth) (eats_of c.args.depth (good_unit_item c.args.depth) refl) (top_defs (expr c.args.depth) (pattern c.args.depth) c.args.tokens.now) (c.turn.apart, c.turn.found) c.turn.tokens c.turn.invariant h (Some (c.in-Some.def, c.in-Some.clean)) c.unit_item.new.tokens (c.in_ok-def.ensures ∙ ap (λ z. Ok (z, c.unit_item.new.tokens)) c.in-Some.is) in
    rw c.in_ok-push-in-Some.ensures.ok (by_clean (unit_item (expr c.args.depth) (pattern c.args.depth)) (top_defs (expr c.args.depth) (pattern c.args.depth) c.args.tokens.now) (c.turn.apart, c.turn.found) c.unit_item.new.tokens c.in-Some.def c.in-Some.clean f)

pub turn-preserved : goal.turn-preserved
turn-preserved c =
    let h = sym (c.goes_top.ensures c.turn.found) ∙ c.turn-test.true in
    goes_on (at_item begins_top) (unit_item (expr c.args.depth) (pattern c.args.depth)) add_item (top_none c.args.depth) (eats_of c.args.depth (good_unit_item c.args.depth) refl) (top_defs (expr c.args.depth) (pattern c.args.depth) c.args.tokens.now) (c.turn.apart, c.turn.found) c.turn.tokens c.turn.invariant h None c.unit_item.new.tokens (c.in_ok-def.ensures ∙ ap (λ z. Ok (z, c.unit_item.new.tokens)) c.in-None.is)

pub returns : goal.returns
returns c = ends (at_item begins_top) (unit_item (expr c.args.depth) (pattern c.args.depth)) add_item (top_none c.args.depth) (eats_of c.args.depth (good_unit_item c.args.depth) refl) (top_defs (expr c.args.depth) (pattern c.args.depth) c.args.tokens.now) (c.turn.apart, c.turn.found) c.turn.tokens c.turn.invariant (sym (c.goes_top.ensures c.turn.found) ∙ c.turn-test.false)
