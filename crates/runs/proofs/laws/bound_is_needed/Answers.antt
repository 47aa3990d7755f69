use Rattle.runs.proofs.Zero.{zero_fails}
use Rattle.runs.proofs.laws.bound_is_needed.Goals as goal

pub returns : goal.returns
returns c = zero_fails
