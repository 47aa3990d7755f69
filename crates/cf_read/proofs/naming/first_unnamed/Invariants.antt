use Rattle.std.proofs.Common.{length}
use Rattle.cf_read.specs.Looking.{AreNamedTo}
use Rattle.cf_read.proofs.naming.first_unnamed.Given as goal

abbrev pub invariant-loop-rest : goal.invariant-loop-rest
invariant-loop-rest l = AreNamedTo l.pool l.code l.rest

abbrev pub decreases-loop-rest : goal.decreases-loop-rest
decreases-loop-rest l = length l.rest
