use Rattle.std.proofs.Common.{sym}
use Rattle.ty_complete.proofs.Finds.{holds_told}
use Rattle.ty_complete.proofs.methods_found.supers_found_of.Goals as goal

pub returns-in-Some : goal.returns-in-Some
returns-in-Some c =
    holds_told _ _ c.args.number c.in-Some.above.now c.holds_in_class.result (sym (rw c.as_slice.ensures at c.in-Some.ensures)) c.holds_in_class.ensures
