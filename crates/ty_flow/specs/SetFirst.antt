-- Each local of a program is set, on every way, before it is read.
use Rattle.std.specs.Prelude.{◌≡◌, ℕ, ◌≤◌, ◌<◌, false, Option, Some, None, length}
use Rattle.std.specs.List.{All}
use Rattle.ty_prog.specs.declared.class.Class.{Class}
use Rattle.ty_prog.specs.declared.cell.Cell.{Cell}
use Rattle.ty_prog.specs.declared.method.Method.{Method}
use Rattle.ty_prog.specs.declared.expr.Expr.{Expr}
use Rattle.ty_prog.specs.declared.program.Program.{Program}
use Rattle.ty_prog.specs.Tree.{Tree, ExprTree, ConstructorTree}
use Rattle.ty_flow.specs.Uses.{passage}

-- no way through a tree reads one of its locals past the first so many, which have values from the start, before it sets it
abbrev pub AreSetFirst : ℕ → ℕ → Tree → Type 0
AreSetFirst given locals tree = (local : ℕ) → given ≤ local → local < locals → (passage local tree).reads ≡ false

-- the same of a method's body, if it has one; its parameters have values
abbrev pub BodyIsSetFirst : Method → Option Expr → Type 0
BodyIsSetFirst method None = Unit
BodyIsSetFirst method (Some body) = AreSetFirst (length method.params) method.locals (ExprTree body)

-- the same of a method
abbrev pub MethodIsSetFirst : Method → Type 0
MethodIsSetFirst method = BodyIsSetFirst method method.body

-- the same of the initialiser of a cell
abbrev pub CellIsSetFirst : Cell → Type 0
CellIsSetFirst cell = AreSetFirst 0 cell.locals (ExprTree cell.init)

-- the same of all bodies of a class
pub record ClassIsSetFirst (class : Class) : Type 0 where
  pub constructor : AreSetFirst (length class.params) class.locals (ConstructorTree class)
  pub cells : All CellIsSetFirst class.cells
  pub methods : All MethodIsSetFirst class.methods

-- the same of all classes of a program
abbrev pub LocalsAreSetFirst : Program → Type 0
LocalsAreSetFirst p = All ClassIsSetFirst p.classes
