use Rattle.std.proofs.Common.{length}
use Rattle.sm_state.proofs.layout.+cell_offset.Given as goal

abbrev pub decreases-cell_offset : goal.decreases-cell_offset
decreases-cell_offset l = length l.linear.now
