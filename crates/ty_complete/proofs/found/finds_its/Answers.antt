use Rattle.std.proofs.Common.{sym}
use Rattle.ty_complete.proofs.Finds.{finds_told}
use Rattle.ty_complete.proofs.found.finds_its.Goals as goal

pub returns-in-Some : goal.returns-in-Some
returns-in-Some c =
    finds_told c.args.p.now c.args.class c.in-Some.found.now (sym (rw c.as_slice-classes.ensures at c.in-Some.ensures)) c.finds_in.result
    (rw c.as_slice.ensures at c.finds_in.ensures)
