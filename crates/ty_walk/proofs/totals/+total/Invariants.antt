use Rattle.std.proofs.Common.{◌≡◌, ◌+◌, ◌-◌, min, sum_by, take, length}
use Rattle.ty_prog.specs.Tree.{children}
use Rattle.ty_prog.specs.Node.{tree_of}
use Rattle.ty_prog.specs.Shape.{shape}
use Rattle.ty_walk.specs.SumOver.{sum_over, nodes}
use Rattle.ty_walk.proofs.totals.+total.Given as goal

abbrev pub decreases-total : goal.decreases-total
decreases-total g l = nodes (tree_of l.root)

abbrev pub invariant-loop-next : goal.invariant-loop-next
invariant-loop-next g l = record {
  node : l.rest.node ≡ l.root;
  summed : l.sum ≡ min (g.M.Measure.of l.measure (shape (tree_of l.root)) + sum_by (sum_over (g.M.Measure.of l.measure)) (take l.rest.at (children (tree_of l.root)))) 4294967295;
}

abbrev pub decreases-loop-next : goal.decreases-loop-next
decreases-loop-next g l = length (children (tree_of l.root)) - l.rest.at
