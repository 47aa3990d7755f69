use Rattle.std.proofs.Common.{◌≡◌, drop}
use Rattle.ty_prog.specs.Node.{tree_of, tree_at}
use Rattle.ty_prog.proofs.node.node_at.Given as goal

abbrev pub invariant-loop-i : goal.invariant-loop-i
invariant-loop-i l = tree_at (tree_of l.node) (drop l.i-index l.place) ≡ tree_at (tree_of l.root) l.place
