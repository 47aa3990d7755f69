use Rattle.std.proofs.Common.{length}
use Rattle.sm_act.proofs.converting.+has.Given as goal

abbrev pub decreases-has : goal.decreases-has
decreases-has l = length l.linear.now
