use Rattle.std.proofs.Common.{◌≡◌, ◌++◌, reverse, length}
use Rattle.ty_prog.proofs.rebuilding.turned.Given as goal

abbrev pub invariant-loop-part : goal.invariant-loop-part
invariant-loop-part l = l.left ++ reverse l.made ≡ l.initial.left

abbrev pub decreases-loop-part : goal.decreases-loop-part
decreases-loop-part l = length l.left
