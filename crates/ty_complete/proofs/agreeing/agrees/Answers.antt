use Rattle.ty_complete.proofs.Finds.{agrees_told}
use Rattle.ty_complete.proofs.agreeing.agrees.Goals as goal

pub returns : goal.returns
returns c = agrees_told c.args.p.now c.args.linear.now c.all_agree.result (rw c.as_slice.ensures at c.all_agree.ensures)
