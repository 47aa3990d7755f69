-- A tree is what is made of its shape and its children.
use Rattle.std.proofs.Common.{◌≡◌, ℕ, List, [], ◌∷◌, ◌++◌, Option, Some, None, map, take, drop, length, refl, ap, sym, ◌∙◌}
use Rattle.std.specs.Prelude.{option_map, option_to_list}
use Rattle.ty_prog.specs.declared.expr.Expr.{Expr, out-Expr, roll-Expr}
use Rattle.ty_prog.specs.declared.case.Case.{Case, out-Case, roll-Case}
use Rattle.ty_prog.specs.declared.pattern.Pattern.{Pattern, out-Pattern, roll-Pattern}
use Rattle.ty_prog.specs.declared.catch.Catch.{Catch, out-Catch, roll-Catch}
use Rattle.ty_prog.specs.declared.catch.Catch.TheOpen.{Expr-F, Catch-F, Pattern-F, Case-F}
use Rattle.ty_prog.specs.declared.catch.Catch.TheViews.{roll-out-Expr, roll-out-Case, roll-out-Pattern, roll-out-Catch}
use Rattle.ty_prog.specs.declared.class.Class.{Class}
use Rattle.ty_prog.specs.declared.stage.Stage.{Stage}
use Rattle.ty_prog.specs.Tree.{Tree, ExprTree, CaseTree, PatternTree, ConstructorTree, StageTree, ExprLevel, CatchLevel, PatternLevel, CaseLevel, handler_parts, handler_children, expr_parts, pattern_parts, case_parts, or_none, children}
use Rattle.ty_prog.specs.Shape.{Shape, ExprShape, CaseShape, PatternShape, ConstructorShape, StageShape, to_one, catch_form, expr_form, pattern_form, case_form, handler_form, shape}
use Rattle.ty_prog.specs.Rebuilt.{as_expr, as_case, as_pattern, first_expr, catch_rebuilt, handler_rebuilt, handler_len, optional_rebuilt, expr_rebuilt, pattern_rebuilt, case_rebuilt, guarded_rebuilt}

exprs_same : (es : List Expr) → map as_expr (map ExprTree es) ≡ es
exprs_same [] = refl
exprs_same (e ∷ es) = ap (λ l. e ∷ l) (exprs_same es)

cases_all : (cs : List Case) → map as_case (take (length (map to_one cs)) (map CaseTree cs)) ≡ cs
cases_all [] = refl
cases_all (c ∷ cs) = ap (λ l. c ∷ l) (cases_all cs)

patterns_same : (ps : List Pattern) → map as_pattern (map PatternTree ps) ≡ ps
patterns_same [] = refl
patterns_same (p ∷ ps) = ap (λ l. p ∷ l) (patterns_same ps)

cases_taken : (cs : List Case) (more : List Tree) → map as_case (take (length (map to_one cs)) (map CaseTree cs ++ more)) ≡ cs
cases_taken [] [] = refl
cases_taken [] (t ∷ more) = refl
cases_taken (c ∷ cs) more = ap (λ l. c ∷ l) (cases_taken cs more)

cases_left : (cs : List Case) (more : List Tree) → drop (length (map to_one cs)) (map CaseTree cs ++ more) ≡ more
cases_left [] [] = refl
cases_left [] (t ∷ more) = refl
cases_left (c ∷ cs) more = cases_left cs more

catch_same : (level : CatchLevel) (more : List Tree) → catch_rebuilt (catch_form level) (handler_parts ExprTree CaseTree level ++ more) ≡ level
catch_same (Catch-F.Cases cases) more = ap Catch-F.Cases (cases_taken cases more)
catch_same (Catch-F.«Catch::Any» local body) more = refl

catch_left : (level : CatchLevel) (more : List Tree) → drop (handler_len (Some (catch_form level))) (handler_parts ExprTree CaseTree level ++ more) ≡ more
catch_left (Catch-F.Cases cases) more = cases_left cases more
catch_left (Catch-F.«Catch::Any» local body) [] = refl
catch_left (Catch-F.«Catch::Any» local body) (t ∷ more) = refl

handler_same : (c : Catch) (more : List Tree) → roll-Catch (catch_rebuilt (handler_form c) (handler_children c ++ more)) ≡ c
handler_same c more = ap roll-Catch (catch_same (out-Catch c) more) ∙ roll-out-Catch c

expr_same : (level : ExprLevel) → expr_rebuilt (expr_form handler_form level) (expr_parts handler_children ExprTree CaseTree level) ≡ level
expr_same (Expr-F.Call of class method args) = ap (Expr-F.Call of class method) (exprs_same args)
expr_same (Expr-F.New class args) = ap (Expr-F.New class) (exprs_same args)
expr_same (Expr-F.Prim op args) = ap (Expr-F.Prim op) (exprs_same args)
expr_same (Expr-F.SuperCall after name args) = ap (Expr-F.SuperCall after name) (exprs_same args)
expr_same (Expr-F.StaticCall class method args) = ap (Expr-F.StaticCall class method) (exprs_same args)
expr_same (Expr-F.Block args) = ap Expr-F.Block (exprs_same args)
expr_same (Expr-F.Println None) = refl
expr_same (Expr-F.Println (Some e)) = refl
expr_same (Expr-F.Match of cases) = ap (Expr-F.Match of) (cases_all cases)
expr_same (Expr-F.Try body None None) = refl
expr_same (Expr-F.Try body None (Some last)) = refl
expr_same (Expr-F.Try body (Some c) None) = ap (λ k. Expr-F.Try body (Some k) None) (handler_same c [])
expr_same (Expr-F.Try body (Some c) (Some last)) =
    ap (λ k. Expr-F.Try body (Some k) (Some (first_expr (drop (handler_len (Some (handler_form c))) (handler_children c ++ ExprTree last ∷ []))))) (handler_same c (ExprTree last ∷ []))
    ∙ ap (λ l. Expr-F.Try body (Some c) (Some (first_expr l))) (catch_left (out-Catch c) (ExprTree last ∷ []))
expr_same (Expr-F.Int n) = refl
expr_same _ = refl

pattern_same : (level : PatternLevel) → pattern_rebuilt (pattern_form level) (pattern_parts ExprTree PatternTree level) ≡ level
pattern_same (Pattern-F.Make class ps) = ap (Pattern-F.Make class) (patterns_same ps)
pattern_same (Pattern-F.Either ps) = ap Pattern-F.Either (patterns_same ps)
pattern_same _ = refl

abbrev with_guard : CaseLevel → Option Expr → CaseLevel
with_guard level guard = record { pattern = level.pattern; guard = guard; body = level.body }

guarded_same : (level : CaseLevel) (guard : Option Expr) → case_rebuilt (case_form (with_guard level guard)) (case_parts ExprTree PatternTree (with_guard level guard)) ≡ with_guard level guard
guarded_same level None = refl
guarded_same level (Some e) = refl

case_same : (level : CaseLevel) → case_rebuilt (case_form level) (case_parts ExprTree PatternTree level) ≡ level
case_same level = guarded_same level level.guard

-- what is made of a shape and children
abbrev rebuilt : Shape → List Tree → Tree
rebuilt (ExprShape form) parts = ExprTree (roll-Expr (expr_rebuilt form parts))
rebuilt (CaseShape form) parts = CaseTree (roll-Case (case_rebuilt form parts))
rebuilt (PatternShape form) parts = PatternTree (roll-Pattern (pattern_rebuilt form parts))
rebuilt (ConstructorShape class) parts = ConstructorTree class
rebuilt (StageShape stage) parts = StageTree stage

rebuilt_same : (t : Tree) → rebuilt (shape t) (children t) ≡ t
rebuilt_same (ExprTree e) = ap ExprTree (ap roll-Expr (expr_same (out-Expr e)) ∙ roll-out-Expr e)
rebuilt_same (CaseTree c) = ap CaseTree (ap roll-Case (case_same (out-Case c)) ∙ roll-out-Case c)
rebuilt_same (PatternTree p) = ap PatternTree (ap roll-Pattern (pattern_same (out-Pattern p)) ∙ roll-out-Pattern p)
rebuilt_same (ConstructorTree class) = refl
rebuilt_same (StageTree stage) = refl

-- trees of the same shape with the same children are the same
pub one_tree : (t u : Tree) → shape t ≡ shape u → children t ≡ children u → t ≡ u
one_tree t u shapes parts = sym (rebuilt_same t) ∙ ap (λ s. rebuilt s (children t)) shapes ∙ ap (rebuilt (shape u)) parts ∙ rebuilt_same u
