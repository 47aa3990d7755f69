-- What holds of each node of a part of a class.
use Rattle.std.specs.Prelude.{◌≡◌, Some}
use Rattle.ty_prog.specs.declared.cell.Cell.{Cell}
use Rattle.ty_prog.specs.declared.expr.Expr.{Expr}
use Rattle.ty_prog.specs.declared.method.Method.{Method}
use Rattle.ty_prog.specs.Tree.{Tree, ExprTree}
use Rattle.ty_walk.specs.Everywhere.{Everywhere}

-- of the initialiser of a cell
abbrev pub KeptInCell : (Tree → Type 0) → Cell → Type 0
KeptInCell P cell = Everywhere P (ExprTree cell.init)

-- of the body of a method, if there is one
pub record KeptInMethod (P : Tree → Type 0) (method : Method) : Type 0 where
  pub each : (body : Expr) → method.body ≡ Some body → Everywhere P (ExprTree body)
