-- The node at a place, and what a borrowed node stands for.
use Rattle.std.specs.Prelude.{ℕ, List, [], ◌∷◌, Option, Some, slice_get, option_and_then}
use Rattle.ty_prog.specs.declared.node.Node.{Node}
use Rattle.ty_prog.specs.declared.node.Node.TheVariants as node
use Rattle.ty_prog.specs.Tree.{Tree, ExprTree, CaseTree, PatternTree, ConstructorTree, StageTree, children}

-- the tree that a node begins
abbrev pub tree_of : Node → Tree
tree_of (node.Expr e) = ExprTree e.now
tree_of (node.Case c) = CaseTree c.now
tree_of (node.Pattern p) = PatternTree p.now
tree_of (node.Constructor class) = ConstructorTree class.now
tree_of (node.Stage stage) = StageTree stage

-- the tree at a place, which is a list of numbers of children from the root on
abbrev pub tree_at : Tree → List ℕ → Option Tree
tree_at tree [] = Some tree
tree_at tree (i ∷ place) = option_and_then (λ child. tree_at child place) (slice_get (children tree) i)
