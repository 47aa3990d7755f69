use Rattle.std.proofs.Common.{rules, arith}
use Rattle.std.proofs.lemmas.Grind.{common_steps}
use Rattle.sl_parse_expr.proofs.LastOf.{some_last, no_last}
use Rattle.sl_parse_expr.proofs.last_new.infix_ends_in_new.Goals as goal

pub returns-in-Some : goal.returns-in-Some
returns-in-Some c =
    let h = some_last c.args.tree.now c.in-Some.operation.now in
    let k = c.len.ensures in
    let m = c.saturating_sub.ensures in
    let v = c.in-Some.ensures.value in
    let p = c.prefix_ends_in_new.ensures in
    first_of (search rules, grind (arith, common_steps))

pub returns-in-None : goal.returns-in-None
returns-in-None c =
    let h = no_last c.args.tree.now in
    let k = c.len.ensures in
    let m = c.saturating_sub.ensures in
    let v = c.in-None.ensures.value in
    let p = c.prefix_ends_in_new-in-None.ensures in
    first_of (search rules, grind (arith, common_steps))
