use Rattle.std.proofs.Common.{length}
use Rattle.sm_state.proofs.layout.+add_all_fields.Given as goal

abbrev pub decreases-add_all_fields : goal.decreases-add_all_fields
decreases-add_all_fields l = length l.linear.now
