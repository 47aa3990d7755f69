use Rattle.std.proofs.Common.{[], Err, rules, arith}
use Rattle.std.proofs.lemmas.Grind.{common_steps}
use Rattle.ty_member.specs.Checked.{Gives, each}
use Rattle.ty_member.specs.Parents.{with_row}
use Rattle.ty_member.proofs.Each.{drop_here, each_goes, each_stops, each_ends}
use Rattle.ty_member.proofs.parents.all_rows.Goals as goal

pub returns-in_err-rows : goal.returns-in_err-rows
returns-in_err-rows c =
    let f : Gives (each (with_row c.args.known.now) c.args.defs.now []) (Err c.in_err-rows.field-0.0) =
    each_stops (with_row c.args.known.now) c.args.defs.now c.loop-def.def-index c.loop-def.rows (each (with_row c.args.known.now) c.args.defs.now []) c.def-item.result c.loop-def.invariant (drop_here c.args.defs.now c.loop-def.def-index c.def-item.result (omega arith) c.def-item.is) c.in_err-rows.field-0.0 c.in_err-rows.ensures in
    first_of (search rules, grind (arith, common_steps))

pub loop-def-preserved : goal.loop-def-preserved
loop-def-preserved c =
    each_goes (with_row c.args.known.now) c.args.defs.now c.loop-def.def-index c.loop-def.rows (each (with_row c.args.known.now) c.args.defs.now []) c.def-item.result c.loop-def.invariant (drop_here c.args.defs.now c.loop-def.def-index c.def-item.result (omega arith) c.def-item.is) c.in_ok-rows.rows c.in_ok-rows.ensures

pub returns : goal.returns
returns c = each_ends (with_row c.args.known.now) c.args.defs.now c.loop-def.def-index c.loop-def.rows (each (with_row c.args.known.now) c.args.defs.now []) c.loop-def.invariant (omega arith)
