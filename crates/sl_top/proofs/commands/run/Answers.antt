use Rattle.sl_top.proofs.Exactly.{runs_of}
use Rattle.sl_top.proofs.commands.run.Goals as goal

pub returns : goal.returns
returns g c =
    runs_of _ c.as_str.result.now _ _ _ _ _ c.told.result c.as_str.ensures.bytes c.run_file-scheduled.ensures.ends c.told.ensures.told
    c.told.ensures.schedule c.told.ensures.files c.run_file-scheduled.ensures.files
