use Rattle.std.proofs.Common.{Err, rules, arith}
use Rattle.std.proofs.lemmas.Grind.{common_steps}
use Rattle.ty_member.specs.Checked.{Gives, each}
use Rattle.ty_member.specs.Naming.{template}
use Rattle.ty_member.proofs.Each.{drop_here, each_goes, each_stops, each_ends}
use Rattle.ty_member.proofs.naming.all_named.Goals as goal

pub returns-in_err-known : goal.returns-in_err-known
returns-in_err-known c =
    let f : Gives (each template c.args.defs.now c.args.known) (Err c.in_err-known.field-0.0) =
    each_stops template c.args.defs.now c.loop-def.def-index c.loop-def.known (each template c.args.defs.now c.args.known) c.def-item.result c.loop-def.invariant (drop_here c.args.defs.now c.loop-def.def-index c.def-item.result (omega arith) c.def-item.is) c.in_err-known.field-0.0 c.in_err-known.ensures in
    first_of (search rules, grind (arith, common_steps))

pub loop-def-preserved : goal.loop-def-preserved
loop-def-preserved c =
    each_goes template c.args.defs.now c.loop-def.def-index c.loop-def.known (each template c.args.defs.now c.args.known) c.def-item.result c.loop-def.invariant (drop_here c.args.defs.now c.loop-def.def-index c.def-item.result (omega arith) c.def-item.is) c.in_ok-known.known c.in_ok-known.ensures

pub returns : goal.returns
returns c = each_ends template c.args.defs.now c.loop-def.def-index c.loop-def.known (each template c.args.defs.now c.args.known) c.loop-def.invariant (omega arith)
