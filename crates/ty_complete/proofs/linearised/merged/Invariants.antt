use Rattle.std.proofs.Common.{◌≡◌, take, reverse}
use Rattle.ty_complete.specs.Merged.{merged}
use Rattle.ty_complete.proofs.linearised.merged.Given as goal

abbrev pub invariant-loop-parent : goal.invariant-loop-parent
invariant-loop-parent l = l.list ≡ merged l.classes (reverse (take l.parent-index l.parents))
