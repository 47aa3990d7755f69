-- What holds of each node of a tree, of a class, of a program.
use Rattle.std.specs.Prelude.{◌≡◌, ℕ, List, Some}
use Rattle.std.specs.List.{All, Contains}
use Rattle.ty_prog.specs.declared.class.Class.{Class}
use Rattle.ty_prog.specs.declared.cell.Cell.{Cell}
use Rattle.ty_prog.specs.declared.method.Method.{Method}
use Rattle.ty_prog.specs.declared.program.Program.{Program}
use Rattle.ty_prog.specs.declared.expr.Expr.{Expr}
use Rattle.ty_prog.specs.Tree.{Tree, ExprTree, ConstructorTree}
use Rattle.ty_prog.specs.Node.{tree_at}

-- P holds of the node at each place of a tree, the root included
pub record Everywhere (P : Tree → Type 0) (root : Tree) : Type 0 where
  pub each : (place : List ℕ) (node : Tree) → tree_at root place ≡ Some node → P node

-- a node stands in a class: in its constructor, the initialiser of a cell or the body of a method
pub data StandsIn (class : Class) (node : Tree) : Type 0 where
  in_constructor : (place : List ℕ) → tree_at (ConstructorTree class) place ≡ Some node → StandsIn class node
  in_cell : (cell : Cell) (place : List ℕ) → Contains class.cells cell → tree_at (ExprTree cell.init) place ≡ Some node → StandsIn class node
  in_method : (method : Method) (body : Expr) (place : List ℕ) → Contains class.methods method → method.body ≡ Some body
      → tree_at (ExprTree body) place ≡ Some node → StandsIn class node

-- P holds of each node that stands in a class
pub record AllNodesOf (P : Tree → Type 0) (class : Class) : Type 0 where
  pub each : (node : Tree) → StandsIn class node → P node

abbrev pub AllNodes : (Tree → Type 0) → Program → Type 0
AllNodes P p = All (AllNodesOf P) p.classes
