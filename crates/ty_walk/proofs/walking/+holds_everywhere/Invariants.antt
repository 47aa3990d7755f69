use Rattle.std.proofs.Common.{◌≡◌, ◌-◌, length, IsTrue}
use Rattle.ty_prog.specs.Tree.{children}
use Rattle.ty_prog.specs.Node.{tree_of}
use Rattle.ty_walk.specs.SumOver.{nodes}
use Rattle.ty_walk.proofs.Spreading.{Before}
use Rattle.ty_walk.proofs.walking.+holds_everywhere.Given as goal

abbrev pub decreases-holds_everywhere : goal.decreases-holds_everywhere
decreases-holds_everywhere g l = nodes (tree_of l.root)

abbrev pub invariant-loop-next : goal.invariant-loop-next
invariant-loop-next g l = record {
  node : l.rest.node ≡ l.root;
  before : Before (λ node. IsTrue (g.R.Rule.holds l.rule node)) (tree_of l.root) l.rest.at;
}

abbrev pub decreases-loop-next : goal.decreases-loop-next
decreases-loop-next g l = length (children (tree_of l.root)) - l.rest.at
