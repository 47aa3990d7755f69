use Rattle.std.proofs.Common.{take}
use Rattle.ty_linear.proofs.Children.{AreAdded}
use Rattle.ty_linear.proofs.order.add_child.Given as goal

abbrev pub invariant-loop-parent : goal.invariant-loop-parent
invariant-loop-parent l = AreAdded l.initial.children l.children l.child (take l.parent-index l.parents)
