use Rattle.sm_cells.proofs.Kept.{cells_run}
use Rattle.sm_cells.proofs.laws.running.Goals as goal

pub returns : goal.returns
returns c = cells_run
