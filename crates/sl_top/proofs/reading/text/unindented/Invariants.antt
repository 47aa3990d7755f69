use Rattle.std.proofs.Common.{◌≡◌, length}
use Rattle.sl_top.specs.Reading.{unindented}
use Rattle.sl_top.proofs.reading.text.unindented.Given as goal

abbrev pub invariant-space : goal.invariant-space
invariant-space l = unindented l.bytes ≡ unindented l.rest

abbrev pub decreases-space : goal.decreases-space
decreases-space l = length l.rest
