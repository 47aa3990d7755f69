use Rattle.std.proofs.Common.{length}
use Rattle.sm_state.proofs.layout.+field_offset.Given as goal

abbrev pub decreases-field_offset : goal.decreases-field_offset
decreases-field_offset l = length l.linear.now
