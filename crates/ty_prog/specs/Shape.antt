-- The shape of a node: one level of its tree with its children left out. A tree is its shape and its children.
use Rattle.std.specs.Prelude.{List}
use Rattle.ty_prog.specs.declared.expr.Expr.{out-Expr}
use Rattle.ty_prog.specs.declared.case.Case.{out-Case}
use Rattle.ty_prog.specs.declared.pattern.Pattern.{out-Pattern}
use Rattle.ty_prog.specs.declared.catch.Catch.{Catch, out-Catch}
use Rattle.ty_prog.specs.declared.catch.Catch.TheOpen.{Expr-F, Catch-F, Pattern-F, Case-F}
use Rattle.ty_prog.specs.declared.catch.Catch.TheFolds.{map-Expr, map-Case, map-Pattern, map-Catch}
use Rattle.ty_prog.specs.declared.class.Class.{Class}
use Rattle.ty_prog.specs.declared.stage.Stage.{Stage}
use Rattle.ty_prog.specs.Tree.{Tree, ExprTree, CaseTree, PatternTree, ConstructorTree, StageTree}

-- what stands in the place of a part
abbrev pub One : Type 0
One = Unit {0}

-- the form of a handler, of an expression, of a pattern and of a case
abbrev pub CatchForm : Type 0
CatchForm = Catch-F One One One One

abbrev pub ExprForm : Type 0
ExprForm = Expr-F CatchForm One One One

abbrev pub PatternForm : Type 0
PatternForm = Pattern-F One One One One

abbrev pub CaseForm : Type 0
CaseForm = Case-F One One One One

-- the shape of a node: its form, with its children left out
pub data Shape : Type 0 where
  ExprShape : (form : ExprForm) → Shape
  CaseShape : (form : CaseForm) → Shape
  PatternShape : (form : PatternForm) → Shape
  ConstructorShape : (class : Class) → Shape
  StageShape : (stage : Stage) → Shape

-- a part left out
abbrev pub to_one : {A : Type 0} → A → One
to_one x = tt

-- a level with its parts left out, whatever stands for them
abbrev pub catch_form : {C E P K : Type 0} → Catch-F C E P K → CatchForm
catch_form {C} {E} {P} {K} = map-Catch C E P K One One One One to_one to_one to_one to_one

abbrev pub expr_form : {C E P K : Type 0} → (C → CatchForm) → Expr-F C E P K → ExprForm
expr_form {C} {E} {P} {K} handler = map-Expr C E P K CatchForm One One One handler to_one to_one to_one

abbrev pub pattern_form : {C E P K : Type 0} → Pattern-F C E P K → PatternForm
pattern_form {C} {E} {P} {K} = map-Pattern C E P K One One One One to_one to_one to_one to_one

abbrev pub case_form : {C E P K : Type 0} → Case-F C E P K → CaseForm
case_form {C} {E} {P} {K} = map-Case C E P K One One One One to_one to_one to_one to_one

-- the form of a handler of an expression
abbrev pub handler_form : Catch → CatchForm
handler_form c = catch_form (out-Catch c)

-- the shape of the node at the root of a tree
abbrev pub shape : Tree → Shape
shape (ExprTree e) = ExprShape (expr_form handler_form (out-Expr e))
shape (CaseTree c) = CaseShape (case_form (out-Case c))
shape (PatternTree p) = PatternShape (pattern_form (out-Pattern p))
shape (ConstructorTree class) = ConstructorShape class
shape (StageTree stage) = StageShape stage
