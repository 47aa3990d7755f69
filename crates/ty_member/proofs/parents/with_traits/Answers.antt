use Rattle.std.proofs.Common.{Err, rules, arith}
use Rattle.std.proofs.lemmas.Grind.{common_steps}
use Rattle.ty_member.specs.Checked.{Gives, each}
use Rattle.ty_member.specs.Parents.{with_parent}
use Rattle.ty_member.proofs.Each.{drop_here, each_goes, each_stops, each_ends}
use Rattle.ty_member.proofs.parents.with_traits.Goals as goal

pub returns-in_err-row : goal.returns-in_err-row
returns-in_err-row c =
    let f : Gives (each (with_parent c.args.known.now) c.args.traits.now c.args.row) (Err c.in_err-row.field-0.0) =
    each_stops (with_parent c.args.known.now) c.args.traits.now c.loop-name.name-index c.loop-name.row (each (with_parent c.args.known.now) c.args.traits.now c.args.row) c.name-item.result c.loop-name.invariant (drop_here c.args.traits.now c.loop-name.name-index c.name-item.result (omega arith) c.name-item.is) c.in_err-row.field-0.0 c.in_err-row.ensures in
    first_of (search rules, grind (arith, common_steps))

pub loop-name-preserved : goal.loop-name-preserved
loop-name-preserved c =
    each_goes (with_parent c.args.known.now) c.args.traits.now c.loop-name.name-index c.loop-name.row (each (with_parent c.args.known.now) c.args.traits.now c.args.row) c.name-item.result c.loop-name.invariant (drop_here c.args.traits.now c.loop-name.name-index c.name-item.result (omega arith) c.name-item.is) c.in_ok-row.row c.in_ok-row.ensures

pub returns : goal.returns
returns c = each_ends (with_parent c.args.known.now) c.args.traits.now c.loop-name.name-index c.loop-name.row (each (with_parent c.args.known.now) c.args.traits.now c.args.row) c.loop-name.invariant (omega arith)
