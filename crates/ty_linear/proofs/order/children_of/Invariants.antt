use Rattle.std.proofs.Common.{◌≡◌, length}
use Rattle.ty_linear.specs.Linear.{rows}
use Rattle.ty_linear.proofs.Children.{AreChildren}
use Rattle.ty_linear.proofs.order.children_of.Given as goal

abbrev pub invariant-loop-child : goal.invariant-loop-child
invariant-loop-child l = record {
  count : length l.children.items ≡ length l.parents;
  children : AreChildren (rows l.parents) (rows l.children.items) l.child;
}
