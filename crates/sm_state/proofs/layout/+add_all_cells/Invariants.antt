use Rattle.std.proofs.Common.{length}
use Rattle.sm_state.proofs.layout.+add_all_cells.Given as goal

abbrev pub decreases-add_all_cells : goal.decreases-add_all_cells
decreases-add_all_cells l = length l.linear.now
