use Rattle.std.proofs.Common.{◌≡◌, drop}
use Rattle.cf_read.specs.Reading.{all_references_at}
use Rattle.cf_read.proofs.references.all_references_at.Given as goal

abbrev pub invariant-loop-constant : goal.invariant-loop-constant
invariant-loop-constant l = all_references_at l.pool (drop l.constant-index l.pool) l.rest ≡ all_references_at l.pool l.pool l.bytes
