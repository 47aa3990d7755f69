use Rattle.sl_top.proofs.Checked.{checks_of}
use Rattle.sl_top.proofs.commands.check.Goals as goal

pub returns : goal.returns
returns g c out quiet =
    checks_of c.sources.ensures.tree c.sources.ensures.fault c.sources.ensures.never_both _ c.as_str.result.now _ out _ _ _ _ c.told.result
    c.as_str.ensures.bytes c.check_file-outcome.ensures.checked c.unrun.ensures.outcome c.told.ensures.told quiet c.told.ensures.schedule c.unrun.ensures.unrun
    c.told.ensures.files c.check_file-outcome.ensures.files
