use Rattle.ty_prog.specs.Node.{tree_of}
use Rattle.ty_flow.proofs.Settings.{one_more_local}
use Rattle.ty_flow.proofs.set_first.are_set_first.Goals as goal

pub loop-local-preserved : goal.loop-local-preserved
loop-local-preserved c =
    one_more_local c.args.given c.loop-local.local (tree_of c.args.root) c.loop-local.invariant
    (c.is_set_first.ensures.0 c.if-not-is_set_first.false)
