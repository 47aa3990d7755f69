use Rattle.sl_top.proofs.Checked.{checked_of}
use Rattle.sl_top.proofs.checking.check_file.Goals as goal

pub returns-in-Ok-clause-checked : goal.returns-in-Ok-clause-checked
returns-in-Ok-clause-checked g c =
    let e = c.as_slice.ensures in
    let f = rw e at c.found.ensures in
    checked_of _ _ _ _ c.in-Ok.ensures.calm c.in-Ok.ensures.given f
