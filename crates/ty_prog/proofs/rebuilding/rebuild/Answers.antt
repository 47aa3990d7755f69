use Rattle.ty_prog.proofs.Fitting.{expr_made}
use Rattle.ty_prog.proofs.rebuilding.rebuild.Goals as goal

pub returns : goal.returns
returns c = expr_made c.in_ok-expr_rebuilt.field-0 c.args.e.now c.in_ok-left.left c.args.parts c.in_ok-left.ensures c.requires c.in_ok-expr_rebuilt.ensures
