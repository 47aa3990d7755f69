-- Which forms a program may have after the first k of the four lowerings: 1 of reads of objects, 2 of traits, 3 of
-- matching, 4 of lazy members. Each removes some high forms and makes some low ones.
use Rattle.std.specs.Prelude.{ℕ, Bool, true, false, ◌&&◌, ◌||◌, not, nat_le, IsTrue, Option, Some, None, if◌then◌else◌}
use Rattle.std.specs.List.{All, list_any}
use Rattle.ty_prog.specs.declared.class.Class.{Class}
use Rattle.ty_prog.specs.declared.program.Program.{Program}
use Rattle.ty_prog.specs.declared.expr.Expr.{out-Expr}
use Rattle.ty_prog.specs.declared.catch.Catch.{Catch, out-Catch}
use Rattle.ty_prog.specs.declared.catch.Catch.TheOpen.{Expr-F, Catch-F}
use Rattle.ty_prog.specs.declared.prim_op.PrimOp.{PrimOp}
use Rattle.ty_prog.specs.declared.prim_op.PrimOp.TheVariants as op
use Rattle.ty_prog.specs.declared.tested.Tested.{Tested}
use Rattle.ty_prog.specs.declared.tested.Tested.TheVariants as tested
use Rattle.ty_prog.specs.Tree.{Tree, ExprTree, CaseTree, PatternTree, ConstructorTree, StageTree, ExprLevel}
use Rattle.ty_walk.specs.Everywhere.{AllNodes}
use Rattle.ty_conform.specs.Kinds.{is_trait_kind}
use Rattle.ty_complete.specs.Words.{is_empty}

-- a handler with cases
abbrev pub is_cases : {C E P K : Type 0} → Catch-F C E P K → Bool
is_cases (Catch-F.Cases cases) = true
is_cases (Catch-F.«Catch::Any» local body) = false

-- a handler that has cases
abbrev pub has_cases : Option Catch → Bool
has_cases None = false
has_cases (Some handler) = is_cases (out-Catch handler)

-- the lowering that removes a form, counted from 1; 5 where none does
abbrev pub expr_removed_by : ExprLevel → ℕ
expr_removed_by (Expr-F.ObjectGet class) = 1
expr_removed_by (Expr-F.SuperCall after name args) = 2
expr_removed_by (Expr-F.Match of cases) = 3
expr_removed_by (Expr-F.Try body handler last) = if has_cases handler then 3 else 5
expr_removed_by (Expr-F.LazyGet of class cell) = 4
expr_removed_by other = 5

-- the same for a node
abbrev pub removed_by : Tree → ℕ
removed_by (ExprTree e) = expr_removed_by (out-Expr e)
removed_by (CaseTree c) = 3
removed_by (PatternTree p) = 3
removed_by (ConstructorTree class) = 5
removed_by (StageTree stage) = 5

-- the lowering that makes a test
abbrev pub test_made_by : Tested → ℕ
test_made_by (tested.OfType type) = 3
test_made_by tested.Latch = 4
test_made_by tested.Evaluating = 4

-- that which makes an operator
abbrev pub prim_made_by : PrimOp → ℕ
prim_made_by op.Evaluating = 4
prim_made_by op.NullValue = 4
prim_made_by other = 0

-- the lowering that makes a form; 0 where it is no low form
abbrev pub expr_made_by : ExprLevel → ℕ
expr_made_by (Expr-F.ModuleGet class) = 1
expr_made_by (Expr-F.SetModule class e) = 1
expr_made_by (Expr-F.StaticCall class method args) = 2
expr_made_by (Expr-F.Test of test) = test_made_by test
expr_made_by (Expr-F.Cas of class field old new) = 4
expr_made_by (Expr-F.NewLatch e) = 4
expr_made_by (Expr-F.OwnedHere e) = 4
expr_made_by (Expr-F.Await e) = 4
expr_made_by (Expr-F.CountDown e) = 4
expr_made_by (Expr-F.Prim operator args) = prim_made_by operator
expr_made_by other = 0

-- the same for a node
abbrev pub made_by : Tree → ℕ
made_by (ExprTree e) = expr_made_by (out-Expr e)
made_by other = 0

-- a node that a program may have after k lowerings
abbrev pub may_stand : ℕ → Tree → Bool
may_stand k node = not (nat_le (removed_by node) k) && nat_le (made_by node) k

-- a class with a static method
abbrev pub has_static : Class → Bool
has_static class = list_any (λ m. m.is_static) class.methods

-- only traits have static methods, from their lowering on; the lowering of lazy members leaves no cell
abbrev pub class_may_stand : ℕ → Class → Bool
class_may_stand k class =
    (not (has_static class) || nat_le 2 k && is_trait_kind class.kind) && (not (nat_le 4 k) || is_empty class.cells)

-- the program has no form that the first k lowerings remove, and no low form that none of them makes
pub record HasForms (k : ℕ) (p : Program) : Type 0 where
  pub nodes : AllNodes (λ node. IsTrue (may_stand k node)) p
  pub classes : All (λ class. IsTrue (class_may_stand k class)) p.classes
