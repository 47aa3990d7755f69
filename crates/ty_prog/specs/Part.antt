-- An owned tree, and the kinds of trees.
use Rattle.std.specs.Prelude.{List, [], ◌∷◌, map, reverse}
use Rattle.ty_prog.specs.declared.part.Part.{Part}
use Rattle.ty_prog.specs.declared.part.Part.TheVariants as part
use Rattle.ty_prog.specs.Tree.{Tree, ExprTree, CaseTree, PatternTree, ConstructorTree, StageTree}

-- the tree that a part is
abbrev pub part_tree : Part → Tree
part_tree (part.Expr e) = ExprTree e
part_tree (part.Case c) = CaseTree c
part_tree (part.Pattern p) = PatternTree p

-- whether a tree is an expression, a case or a pattern
pub data TreeKind : Type 0 where
  AnExpr : TreeKind
  ACase : TreeKind
  APattern : TreeKind
  AConstructor : TreeKind
  AStage : TreeKind

-- of which kind a tree is
abbrev pub tree_kind : Tree → TreeKind
tree_kind (ExprTree e) = AnExpr
tree_kind (CaseTree c) = ACase
tree_kind (PatternTree p) = APattern
tree_kind (ConstructorTree class) = AConstructor
tree_kind (StageTree stage) = AStage

-- the kinds of trees, in order
abbrev pub kinds : List Tree → List TreeKind
kinds trees = map tree_kind trees

-- For proofs only: the parts of a stack, the last one first.
abbrev pub in_order : List Part → List Tree
in_order parts = map part_tree (reverse parts)
