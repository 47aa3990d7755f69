use Rattle.std.proofs.Common.{◌≡◌, ◌∙◌, ap, sym, rules, arith, refl, Ok, Err, true, false, List, [], ◌∷◌, Some, None, Bool, Option, ◌++◌}
use Rattle.std.proofs.lemmas.Grind.{common_steps}
use mathlib.Core.Bool.{not}
use Rattle.sl_ast.specs.declared.template.Member.{Member}
use Rattle.sl_parse_expr.specs.Reading.{Reads, Reader, Outcome, State, fold, clean}
use Rattle.sl_parse_expr.specs.Rules.{at_item, add_item}
use Rattle.sl_parse_expr.proofs.Loops.{eats_of, goes_on, ends, fails_as}
use Rattle.sl_parse_expr.specs.Levels.{expr}
use Rattle.sl_parse_expr.specs.PatternRules.{pattern}
use Rattle.sl_parse_tmpl.specs.Words.{begins_member}
use Rattle.sl_parse_tmpl.specs.Rules.{members, body_item}
use Rattle.sl_parse_tmpl.proofs.Good.{good_body_item, member_none}
use Rattle.sl_parse_tmpl.proofs.members.members.Goals as goal

by_clean : (item : Reader (Option (Member × Bool))) (total : Outcome (Bool × List Member)) (s : Bool × List Member) (st : State) (x : Member) (clean_behind : Bool)
    → total ≡ fold (clean (at_item begins_member)) item add_item (add_item s (Some (x, clean_behind))) st → total ≡ fold (clean (at_item begins_member)) item add_item (not clean_behind, s.1 ++ x ∷ []) st
by_clean item total s st x true f = f
by_clean item total s st x false f = f

pub returns-in_err-member : goal.returns-in_err-member
returns-in_err-member c =
    let h = sym (c.goes_member.ensures c.turn.found) ∙ c.turn-test.true in
    let f : Reads (members (expr c.args.depth) (pattern c.args.depth) c.args.tokens.now) (Err c.in_err-member.field-0.0) c.body_item.new.tokens = fails_as (at_item begins_member) (body_item (expr c.args.depth) (pattern c.args.depth)) add_item (member_none c.args.depth) (eats_of c.args.depth (good_body_item c.args.depth) refl) (members (expr c.args.depth) (pattern c.args.depth) c.args.tokens.now) (c.turn.apart, c.turn.found) c.turn.tokens c.turn.invariant h c.in_err-member.field-0.0 c.body_item.new.tokens c.in_err-member.ensures in
    first_of (search rules, grind (arith, common_steps))

pub turn-init : goal.turn-init
unfolding members
turn-init c = rw c.new-found.ensures refl

pub turn-smaller-in-Some : goal.turn-smaller-in-Some
turn-smaller-in-Some c = (eats_of c.args.depth (good_body_item c.args.depth) refl).eats c.turn.tokens _ c.body_item.new.tokens c.in_ok-member.ensures

pub turn-smaller : goal.turn-smaller
turn-smaller c = (eats_of c.args.depth (good_body_item c.args.depth) refl).eats c.turn.tokens _ c.body_item.new.tokens c.in_ok-member.ensures

pub turn-preserved-in-Some : goal.turn-preserved-in-Some
turn-preserved-in-Some c =
    let h = sym (c.goes_member.ensures c.turn.found) ∙ c.turn-test.true in
    let f = goes_on (at_item begins_member) (body_item (expr c.args.depth) (pattern c.args.depth)) add_item (member_none c.args.depth) (eats_of c.args.depth (good_body_item c.args.depth) refl) (members (expr c.args.depth) (pattern c.args.depth) c.args.tokens.now) (c.turn.apart, c.turn.found) c.turn.tokens c.turn.invariant h (Some (c.in-Some.member, c.in-Some.clean)) c.body_item.new.tokens (c.in_ok-member.ensures ∙ ap (λ z. Ok (z, c.body_item.new.tokens)) c.in-Some.is) in
    rw c.in_ok-push-in-Some.ensures.ok (by_clean (body_item (expr c.args.depth) (pattern c.args.depth)) (members (expr c.args.depth) (pattern c.args.depth) c.args.tokens.now) (c.turn.apart, c.turn.found) c.body_item.new.tokens c.in-Some.member c.in-Some.clean f)

pub turn-preserved : goal.turn-preserved
turn-preserved c =
    let h = sym (c.goes_member.ensures c.turn.found) ∙ c.turn-test.true in
    goes_on (at_item begins_member) (body_item (expr c.args.depth) (pattern c.args.depth)) add_item (member_none c.args.depth) (eats_of c.args.depth (good_body_item c.args.depth) refl) (members (expr c.args.depth) (pattern c.args.depth) c.args.tokens.now) (c.turn.apart, c.turn.found) c.turn.tokens c.turn.invariant h None c.body_item.new.tokens (c.in_ok-member.ensures ∙ ap (λ z. Ok (z, c.body_item.new.tokens)) c.in-None.is)

pub returns : goal.returns
returns c = ends (at_item begins_member) (body_item (expr c.args.depth) (pattern c.args.depth)) add_item (member_none c.args.depth) (eats_of c.args.depth (good_body_item c.args.depth) refl) (members (expr c.args.depth) (pattern c.args.depth) c.args.tokens.now) (c.turn.apart, c.turn.found) c.turn.tokens c.turn.invariant (sym (c.goes_member.ensures c.turn.found) ∙ c.turn-test.false)
