-- The parts of `LocalsAreSetFirst`, each as one fact, into which searches don't look.
use Rattle.std.specs.Prelude.{length}
use Rattle.ty_prog.specs.declared.class.Class.{Class}
use Rattle.ty_prog.specs.declared.cell.Cell.{Cell}
use Rattle.ty_prog.specs.declared.method.Method.{Method}
use Rattle.ty_prog.specs.Tree.{ConstructorTree}
use Rattle.ty_flow.specs.SetFirst.{AreSetFirst, CellIsSetFirst, MethodIsSetFirst, ClassIsSetFirst}

-- the constructor of a class sets its locals first
unfoldable pub ConstructorSettled : Class → Type 0
ConstructorSettled class = AreSetFirst (length class.params) class.locals (ConstructorTree class)

-- an initialiser does
unfoldable pub CellSettled : Cell → Type 0
CellSettled cell = CellIsSetFirst cell

-- a method does
unfoldable pub MethodSettled : Method → Type 0
MethodSettled method = MethodIsSetFirst method

-- all bodies of a class do
unfoldable pub ClassSettled : Class → Type 0
ClassSettled class = ClassIsSetFirst class
