-- That a program is typed: each local of a body has one type, each node is typed, and each body gives what is declared.
use Rattle.std.specs.Prelude.{◌≡◌, ℕ, suc, IsTrue, List, [], ◌∷◌, Option, Some, None, length, take, if◌then◌else◌}
use Rattle.ty_prog.specs.declared.program.Program.{Program}
use Rattle.ty_prog.specs.declared.class.Class.{Class}
use Rattle.ty_prog.specs.declared.cell.Cell.{Cell}
use Rattle.ty_prog.specs.declared.method.Method.{Method}
use Rattle.ty_prog.specs.declared.expr.Expr.{Expr}
use Rattle.ty_prog.specs.declared.ty.Ty.{Ty}
use Rattle.ty_prog.specs.Tree.{Tree, ExprTree, ConstructorTree}
use Rattle.ty_walk.specs.Everywhere.{Everywhere}
use Rattle.ty_typed.specs.declared.class_locals.ClassLocals.{ClassLocals}
use Rattle.ty_typed.specs.Stands.{fits}
use Rattle.ty_typed.specs.Members.{param_types}
use Rattle.ty_typed.specs.Types.{types_of}
use Rattle.ty_typed.specs.NodeTyped.{node_typed}

-- the nodes of a body are typed where its locals have these types; there are so many locals, and the first are given
pub record BodyTyped (p : Program) (this : Option ℕ) (given : List Ty) (count : ℕ) (locals : List Ty) (root : Tree) : Type 0 where
  pub counted : length locals ≡ count
  pub begins : take (length given) locals ≡ given
  pub nodes : Everywhere (λ node. IsTrue (node_typed p this locals node)) root

-- a body that gives a value of a type
pub record Gives (p : Program) (this : Option ℕ) (given : List Ty) (count : ℕ) (locals : List Ty) (body : Expr) (wanted : Ty) : Type 0 where
  pub typed : BodyTyped p this given count locals (ExprTree body)
  pub gives : IsTrue (fits p.classes (types_of p this locals body) wanted)

-- P holds of each two that stand at one place, and the lists are of one length
abbrev pub AllBoth : {A B : Type 0} → (A → B → Type 0) → List A → List B → Type 0
AllBoth P [] [] = Unit
AllBoth P (x ∷ xs) (y ∷ ys) = P x y × AllBoth P xs ys
AllBoth P xs ys = ⊥

-- a static method has no `this`
abbrev pub this_of : ℕ → Method → Option ℕ
this_of class method = if method.is_static then None else Some class

module _ (p : Program) (class : ℕ) where
  -- a body, if there is one, gives what the method declares
  abbrev pub SomeBodyTyped : Method → List Ty → Option Expr → Type 0
  SomeBodyTyped method locals None = Unit
  SomeBodyTyped method locals (Some body) = Gives p (this_of class method) method.params method.locals locals body method.result

  -- the method is typed where its locals have these types
  abbrev pub MethodTyped : Method → List Ty → Type 0
  MethodTyped method locals = SomeBodyTyped method locals method.body

  -- the initialiser of a cell is
  abbrev pub CellTyped : Cell → List Ty → Type 0
  CellTyped cell locals = Gives p (Some class) [] cell.locals locals cell.init cell.ty

-- the bodies of the class with this number are typed, its locals having these types
pub record ClassTyped (p : Program) (number : ℕ) (class : Class) (locals : ClassLocals) : Type 0 where
  pub constructor : BodyTyped p (Some number) (param_types class) class.locals locals.constructor (ConstructorTree class)
  pub cells : AllBoth (CellTyped p number) class.cells locals.cells
  pub methods : AllBoth (MethodTyped p number) class.methods locals.methods

-- those of classes in a row, from a number on
abbrev pub ClassesTyped : Program → ℕ → List Class → List ClassLocals → Type 0
ClassesTyped p number [] [] = Unit
ClassesTyped p number (class ∷ classes) (first ∷ rest) = ClassTyped p number class first × ClassesTyped p (suc number) classes rest
ClassesTyped p number classes locals = ⊥

-- the program is typed where the locals of its classes have these types
abbrev pub TypedWith : Program → List ClassLocals → Type 0
TypedWith p locals = ClassesTyped p 0 p.classes locals
