use Rattle.cf_super.proofs.Shaped.{ShapedTo}
use Rattle.cf_super.proofs.shapes.first_unshaped.Given as goal

abbrev pub invariant-loop-i : goal.invariant-loop-i
invariant-loop-i l = ShapedTo l.files l.i
