use Rattle.std.proofs.Common.{◌≡◌, ◌++◌, map, length}
use Rattle.ty_prog.specs.Part.{in_order}
use Rattle.ty_prog.specs.Rebuilt.{as_pattern}
use Rattle.ty_prog.proofs.parts.patterns.Given as goal

abbrev pub invariant-loop-part : goal.invariant-loop-part
invariant-loop-part l = l.made ++ map as_pattern (in_order l.left) ≡ map as_pattern (in_order l.initial.left)

abbrev pub decreases-loop-part : goal.decreases-loop-part
decreases-loop-part l = length l.left
