use Rattle.std.proofs.Common.{length}
use Rattle.sl_top.specs.Reading.{IsBody}
use Rattle.sl_top.proofs.Going.{SoFar}
use Rattle.sl_top.proofs.reading.body.body.Given as goal

abbrev pub invariant-lines : goal.invariant-lines
invariant-lines l = SoFar IsBody l.bytes l.chains l.rest

abbrev pub decreases-lines : goal.decreases-lines
decreases-lines l = length l.rest
