use Rattle.cf_read.proofs.Needing.{unnamed_of}
use Rattle.cf_read.proofs.naming.first_unnamed_of.Goals as goal

pub returns-clause-named : goal.returns-clause-named
returns-clause-named c = unnamed_of c.args.pool.now c.args.code.now c.args.instrs.now c.first_unnamed.result c.requires.is_code c.requires.spelled c.first_unnamed.ensures.named
