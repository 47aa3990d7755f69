use Rattle.ty_walk.proofs.Sums.{over_children, over_child, over_place, nodes_below}
use Rattle.ty_walk.proofs.totals.summing.Goals as goal

pub returns : goal.returns
returns c = record {
  root = over_children;
  child = over_child;
  part = over_place;
  fewer = nodes_below;
}
