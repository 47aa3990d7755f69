-- For proofs only: a tree from the shape of its root and its children. Where a child lacks or is of another kind, a form
-- without children stands in its place.
use Rattle.std.specs.Prelude.{ℕ, List, [], ◌∷◌, Option, Some, None, map, take, drop, length}
use Rattle.ty_prog.specs.declared.expr.Expr.{Expr}
use Rattle.ty_prog.specs.declared.expr.Expr.TheVariants as expr
use Rattle.ty_prog.specs.declared.case.Case.{Case, roll-Case}
use Rattle.ty_prog.specs.declared.pattern.Pattern.{Pattern}
use Rattle.ty_prog.specs.declared.pattern.Pattern.TheVariants as pattern
use Rattle.ty_prog.specs.declared.catch.Catch.{Catch, roll-Catch}
use Rattle.ty_prog.specs.declared.catch.Catch.TheOpen.{Expr-F, Catch-F, Pattern-F, Case-F}
use Rattle.ty_prog.specs.Tree.{Tree, ExprTree, CaseTree, PatternTree, ExprLevel, CatchLevel, PatternLevel, CaseLevel}
use Rattle.ty_prog.specs.Shape.{One, CatchForm, ExprForm, PatternForm, CaseForm}

-- a child as an expression, as a pattern or as a case
abbrev pub as_expr : Tree → Expr
as_expr (ExprTree e) = e
as_expr other = expr.Unit

abbrev pub as_pattern : Tree → Pattern
as_pattern (PatternTree p) = p
as_pattern other = pattern.Any

abbrev pub as_case : Tree → Case
as_case (CaseTree c) = c
as_case other = roll-Case (record { pattern = pattern.Any; guard = None; body = expr.Unit })

-- the first child as an expression, as a pattern, and those behind it
abbrev pub first_expr : List Tree → Expr
first_expr [] = expr.Unit
first_expr (child ∷ rest) = as_expr child

abbrev pub first_pattern : List Tree → Pattern
first_pattern [] = pattern.Any
first_pattern (child ∷ rest) = as_pattern child

-- a handler, and what stands behind its parts
abbrev pub catch_rebuilt : CatchForm → List Tree → CatchLevel
catch_rebuilt (Catch-F.Cases cases) parts = Catch-F.Cases (map as_case (take (length cases) parts))
catch_rebuilt (Catch-F.«Catch::Any» local body) parts = Catch-F.«Catch::Any» local (first_expr parts)

abbrev pub handler_rebuilt : Option CatchForm → List Tree → Option Catch
handler_rebuilt None parts = None
handler_rebuilt (Some c) parts = Some (roll-Catch (catch_rebuilt c parts))

-- how many parts a handler has
abbrev pub handler_len : Option CatchForm → ℕ
handler_len None = 0
handler_len (Some (Catch-F.Cases cases)) = length cases
handler_len (Some (Catch-F.«Catch::Any» local body)) = 1

-- an expression that may be left out
abbrev pub optional_rebuilt : Option One → List Tree → Option Expr
optional_rebuilt None parts = None
optional_rebuilt (Some one) parts = Some (first_expr parts)

-- an expression from its form and its children
abbrev pub expr_rebuilt : ExprForm → List Tree → ExprLevel
expr_rebuilt (Expr-F.Int n) parts = Expr-F.Int n
expr_rebuilt (Expr-F.Long n) parts = Expr-F.Long n
expr_rebuilt (Expr-F.Bool b) parts = Expr-F.Bool b
expr_rebuilt (Expr-F.Text text) parts = Expr-F.Text text
expr_rebuilt Expr-F.Null parts = Expr-F.Null
expr_rebuilt Expr-F.Unit parts = Expr-F.Unit
expr_rebuilt (Expr-F.Local local) parts = Expr-F.Local local
expr_rebuilt (Expr-F.SetLocal local e) parts = Expr-F.SetLocal local (first_expr parts)
expr_rebuilt Expr-F.This parts = Expr-F.This
expr_rebuilt (Expr-F.Get of class field) parts = Expr-F.Get (first_expr parts) class field
expr_rebuilt (Expr-F.Put of class field value) parts = Expr-F.Put (first_expr parts) class field (first_expr (drop 1 parts))
expr_rebuilt (Expr-F.Call of class method args) parts = Expr-F.Call (first_expr parts) class method (map as_expr (drop 1 parts))
expr_rebuilt (Expr-F.New class args) parts = Expr-F.New class (map as_expr parts)
expr_rebuilt (Expr-F.Prim op args) parts = Expr-F.Prim op (map as_expr parts)
expr_rebuilt (Expr-F.Convert to of) parts = Expr-F.Convert to (first_expr parts)
expr_rebuilt (Expr-F.Equal a b) parts = Expr-F.Equal (first_expr parts) (first_expr (drop 1 parts))
expr_rebuilt (Expr-F.TextOf e) parts = Expr-F.TextOf (first_expr parts)
expr_rebuilt (Expr-F.Println e) parts = Expr-F.Println (optional_rebuilt e parts)
expr_rebuilt (Expr-F.If c a b) parts = Expr-F.If (first_expr parts) (first_expr (drop 1 parts)) (first_expr (drop 1 (drop 1 parts)))
expr_rebuilt (Expr-F.While c b) parts = Expr-F.While (first_expr parts) (first_expr (drop 1 parts))
expr_rebuilt (Expr-F.Block es) parts = Expr-F.Block (map as_expr parts)
expr_rebuilt (Expr-F.Try body handler last) parts =
    Expr-F.Try (first_expr parts) (handler_rebuilt handler (drop 1 parts)) (optional_rebuilt last (drop (handler_len handler) (drop 1 parts)))
expr_rebuilt (Expr-F.Throw e) parts = Expr-F.Throw (first_expr parts)
expr_rebuilt (Expr-F.Start e) parts = Expr-F.Start (first_expr parts)
expr_rebuilt (Expr-F.Match of cases) parts = Expr-F.Match (first_expr parts) (map as_case (take (length cases) (drop 1 parts)))
expr_rebuilt (Expr-F.LazyGet of class cell) parts = Expr-F.LazyGet (first_expr parts) class cell
expr_rebuilt (Expr-F.ObjectGet class) parts = Expr-F.ObjectGet class
expr_rebuilt (Expr-F.SuperCall after name args) parts = Expr-F.SuperCall after name (map as_expr parts)
expr_rebuilt (Expr-F.Test of test) parts = Expr-F.Test (first_expr parts) test
expr_rebuilt (Expr-F.Cas of class field old new) parts =
    Expr-F.Cas (first_expr parts) class field (first_expr (drop 1 parts)) (first_expr (drop 1 (drop 1 parts)))
expr_rebuilt (Expr-F.NewLatch e) parts = Expr-F.NewLatch (first_expr parts)
expr_rebuilt (Expr-F.OwnedHere e) parts = Expr-F.OwnedHere (first_expr parts)
expr_rebuilt (Expr-F.Await e) parts = Expr-F.Await (first_expr parts)
expr_rebuilt (Expr-F.CountDown e) parts = Expr-F.CountDown (first_expr parts)
expr_rebuilt (Expr-F.StaticCall class method args) parts = Expr-F.StaticCall class method (map as_expr parts)
expr_rebuilt (Expr-F.ModuleGet class) parts = Expr-F.ModuleGet class
expr_rebuilt (Expr-F.SetModule class e) parts = Expr-F.SetModule class (first_expr parts)

-- a pattern from its form and its children
abbrev pub pattern_rebuilt : PatternForm → List Tree → PatternLevel
pattern_rebuilt Pattern-F.«Pattern::Any» parts = Pattern-F.«Pattern::Any»
pattern_rebuilt (Pattern-F.Bind local p) parts = Pattern-F.Bind local (first_pattern parts)
pattern_rebuilt (Pattern-F.OfType type) parts = Pattern-F.OfType type
pattern_rebuilt (Pattern-F.Literal e) parts = Pattern-F.Literal (first_expr parts)
pattern_rebuilt (Pattern-F.Object class) parts = Pattern-F.Object class
pattern_rebuilt (Pattern-F.Make class ps) parts = Pattern-F.Make class (map as_pattern parts)
pattern_rebuilt (Pattern-F.Either ps) parts = Pattern-F.Either (map as_pattern parts)

-- a case from its guard's form and its children
abbrev pub guarded_rebuilt : Option One → List Tree → CaseLevel
guarded_rebuilt None parts = record { pattern = first_pattern parts; guard = None; body = first_expr (drop 1 parts) }
guarded_rebuilt (Some one) parts =
    record { pattern = first_pattern parts; guard = Some (first_expr (drop 1 parts)); body = first_expr (drop 1 (drop 1 parts)) }

-- a case from its form and its children
abbrev pub case_rebuilt : CaseForm → List Tree → CaseLevel
case_rebuilt c parts = guarded_rebuilt c.guard parts
