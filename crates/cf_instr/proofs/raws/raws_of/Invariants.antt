use Rattle.std.proofs.Common.{length}
use Rattle.cf_instr.specs.Raws.{AreRaws}
use Rattle.cf_instr.proofs.raws.raws_of.Given as goal

abbrev pub invariant-loop-rest : goal.invariant-loop-rest
invariant-loop-rest l = AreRaws l.bytes l.raws.items l.starts.items l.rest

abbrev pub decreases-loop-rest : goal.decreases-loop-rest
decreases-loop-rest l = length l.rest
