use Rattle.std.proofs.Common.{◌≡◌, length}
use Rattle.ty_complete.specs.Complete.{differ}
use Rattle.ty_complete.proofs.members.cells_differ.Given as goal

abbrev pub invariant-loop-first : goal.invariant-loop-first
invariant-loop-first l = differ (λ m. m.name) l.rest ≡ differ (λ m. m.name) l.cells

abbrev pub decreases-loop-first : goal.decreases-loop-first
decreases-loop-first l = length l.rest
