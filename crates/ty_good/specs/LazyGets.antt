-- Where lazy members are read: a lazy member is read by the method of its name alone, so that it can implement or override
-- a `def` (SLS 4.1, 5.1.4), and the lowering of lazy members, the fourth, rewrites that method.
use Rattle.std.specs.Prelude.{ℕ, Bool, true, false, ◌&&◌, ◌||◌, nat_eq, nat_le, IsTrue, IsFalse, List, slice_get, option_map}
use Rattle.std.specs.List.{list_all}
use Rattle.std.specs.Option.{unwrap_or}
use Rattle.std.specs.Str.{bytes_eq}
use Rattle.ty_prog.specs.declared.class.Class.{Class}
use Rattle.ty_prog.specs.declared.cell.Cell.{Cell}
use Rattle.ty_prog.specs.declared.method.Method.{Method}
use Rattle.ty_prog.specs.declared.program.Program.{Program}
use Rattle.ty_prog.specs.declared.expr.Expr.{Expr, out-Expr}
use Rattle.ty_prog.specs.declared.catch.Catch.TheOpen.{Expr-F}
use Rattle.ty_prog.specs.Shape.{Shape, ExprShape, ExprForm}
use Rattle.ty_prog.specs.Tree.{Tree, ExprTree, ConstructorTree, ExprLevel}
use Rattle.ty_walk.specs.SumOver.{sum_over}
use Rattle.ty_complete.specs.Words.{is_empty}
use Rattle.ty_typed.specs.NodeTyped.{is_this}
use Rattle.ty_good.specs.Each.{EachClass}

-- 1 for a form that reads a lazy member
abbrev pub form_gets_lazy : ExprForm → ℕ
form_gets_lazy (Expr-F.LazyGet of class cell) = 1
form_gets_lazy other = 0

-- 1 for a node that reads a lazy member
abbrev pub gets_lazy : Shape → ℕ
gets_lazy (ExprShape form) = form_gets_lazy form
gets_lazy other = 0

-- how many nodes of a tree read a lazy member
abbrev pub lazy_gets : Tree → ℕ
lazy_gets tree = sum_over gets_lazy tree

-- an expression that reads none
abbrev pub gets_none : Expr → Bool
gets_none e = nat_eq (lazy_gets (ExprTree e)) 0

-- whether the cell with a number has a name
abbrev pub is_cell_named : List Cell → List ℕ → ℕ → Bool
is_cell_named cells name cell = unwrap_or (option_map (λ c. bytes_eq c.name name) (slice_get cells cell)) false

module _ (number : ℕ) (cells : List Cell) where
  -- the read of the lazy member of a name of `this`, in the class with a number and these cells
  abbrev pub level_gets_own : List ℕ → ExprLevel → Bool
  level_gets_own name (Expr-F.LazyGet of class cell) = is_this (out-Expr of) && nat_eq class number && is_cell_named cells name cell
  level_gets_own name other = false

  -- a method without parameters that reads the lazy member of its name, and does nothing else, or a method that reads none
  abbrev pub method_gets_own : Method → Bool
  method_gets_own m =
      unwrap_or (option_map (λ body. is_empty m.params && level_gets_own m.name (out-Expr body) || gets_none body) m.body) true

-- nothing in a class reads a lazy member but the methods of such names
abbrev pub class_gets_own : ℕ → Class → Bool
class_gets_own number class =
    nat_eq (lazy_gets (ConstructorTree class)) 0 && list_all (λ c. gets_none c.init) class.cells
    && list_all (method_gets_own number class.cells) class.methods

-- so in each class of the program, until the lowering of lazy members
pub record LazyGetsStand (k : ℕ) (p : Program) : Type 0 where
  pub before : IsFalse (nat_le 4 k) → EachClass (λ number class. IsTrue (class_gets_own number class)) p.classes
