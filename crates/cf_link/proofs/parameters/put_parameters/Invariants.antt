use Rattle.std.proofs.Common.{length}
use Rattle.cf_link.proofs.Following.{Left}
use Rattle.cf_link.proofs.parameters.put_parameters.Given as goal

abbrev pub invariant-loop-rest : goal.invariant-loop-rest
invariant-loop-rest l = Left l.bytes l.kinds l.rest

abbrev pub decreases-loop-rest : goal.decreases-loop-rest
decreases-loop-rest l = length l.rest
