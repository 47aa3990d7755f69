use Rattle.ty_prog.proofs.Fitting.{pattern_made}
use Rattle.ty_prog.proofs.rebuilding.rebuild_pattern.Goals as goal

pub returns : goal.returns
returns c = pattern_made c.in_ok-pattern_rebuilt.field-0 c.args.p.now c.in_ok-left.left c.args.parts c.in_ok-left.ensures c.requires c.in_ok-pattern_rebuilt.ensures
