-- A level that is copied has the form that it had, and its parts are what the parts became.
use Rattle.std.proofs.Common.{◌≡◌, ℕ, zero, suc, List, [], ◌∷◌, ◌++◌, map, Option, Some, None, option_map, slice_get, refl, ap, sym, ◌∙◌}
use Rattle.std.proofs.lemmas.List.{map-append}
use Rattle.ty_prog.specs.declared.expr.Expr.{Expr}
use Rattle.ty_prog.specs.declared.case.Case.{Case}
use Rattle.ty_prog.specs.declared.pattern.Pattern.{Pattern}
use Rattle.ty_prog.specs.declared.catch.Catch.{Catch}
use Rattle.ty_prog.specs.declared.catch.Catch.TheOpen.{Expr-F, Catch-F, Pattern-F}
use Rattle.ty_prog.specs.declared.catch.Catch.TheFolds.{map-Expr, map-Catch, map-Pattern, map-Case}
use Rattle.ty_prog.specs.Tree.{Tree, ExprTree, CaseTree, PatternTree, ConstructorTree, StageTree, ExprLevel, CatchLevel, PatternLevel, CaseLevel, handler_parts, expr_parts, pattern_parts, case_parts, handler_children}
use Rattle.ty_prog.specs.Shape.{to_one, catch_form, expr_form, pattern_form, case_form, handler_form}

-- the level of a case from its parts
abbrev pub case_level : Pattern → Option Expr → Expr → CaseLevel
case_level p g b = record { pattern = p; guard = g; body = b }

-- what a copy makes of the parts of a level
module _ (catch : Catch → Catch) (expr : Expr → Expr) (pattern : Pattern → Pattern) (case : Case → Case) where
  abbrev pub expr_copy : ExprLevel → ExprLevel
  expr_copy = map-Expr Catch Expr Pattern Case Catch Expr Pattern Case catch expr pattern case

  abbrev pub catch_copy : CatchLevel → CatchLevel
  catch_copy = map-Catch Catch Expr Pattern Case Catch Expr Pattern Case catch expr pattern case

  abbrev pub pattern_copy : PatternLevel → PatternLevel
  pattern_copy = map-Pattern Catch Expr Pattern Case Catch Expr Pattern Case catch expr pattern case

  abbrev pub case_copy : CaseLevel → CaseLevel
  case_copy = map-Case Catch Expr Pattern Case Catch Expr Pattern Case catch expr pattern case

  -- a tree that is copied as a whole
  abbrev pub copied : Tree → Tree
  copied (ExprTree e) = ExprTree (expr e)
  copied (CaseTree c) = CaseTree (case c)
  copied (PatternTree p) = PatternTree (pattern p)
  copied (ConstructorTree class) = ConstructorTree class
  copied (StageTree stage) = StageTree stage

  -- ---- forms

  ones : {A : Type 0} (f : A → A) (xs : List A) → map to_one (map f xs) ≡ map to_one xs
  ones f [] = refl
  ones f (x ∷ xs) = ap (λ l. tt ∷ l) (ones f xs)

  pub copied_catch : (l : CatchLevel) → catch_form (catch_copy l) ≡ catch_form l
  copied_catch (Catch-F.Cases cases) = ap Catch-F.Cases (ones case cases)
  copied_catch (Catch-F.«Catch::Any» local body) = refl

  pub copied_pattern : (l : PatternLevel) → pattern_form (pattern_copy l) ≡ pattern_form l
  copied_pattern (Pattern-F.Make class parts) = ap (Pattern-F.Make class) (ones pattern parts)
  copied_pattern (Pattern-F.Either parts) = ap Pattern-F.Either (ones pattern parts)
  copied_pattern Pattern-F.«Pattern::Any» = refl
  copied_pattern _ = refl

  pub copied_case : (p : Pattern) (g : Option Expr) (b : Expr) → case_form (case_copy (case_level p g b)) ≡ case_form (case_level p g b)
  copied_case p None b = refl
  copied_case p (Some e) b = refl

  module _ (handled : (c : Catch) → handler_form (catch c) ≡ handler_form c) where
    pub copied_expr : (l : ExprLevel) → expr_form handler_form (expr_copy l) ≡ expr_form handler_form l
    copied_expr (Expr-F.Call of class method args) = ap (Expr-F.Call tt class method) (ones expr args)
    copied_expr (Expr-F.New class args) = ap (Expr-F.New class) (ones expr args)
    copied_expr (Expr-F.Prim op args) = ap (Expr-F.Prim op) (ones expr args)
    copied_expr (Expr-F.SuperCall after name args) = ap (Expr-F.SuperCall after name) (ones expr args)
    copied_expr (Expr-F.StaticCall class method args) = ap (Expr-F.StaticCall class method) (ones expr args)
    copied_expr (Expr-F.Block args) = ap Expr-F.Block (ones expr args)
    copied_expr (Expr-F.Println None) = refl
    copied_expr (Expr-F.Println (Some e)) = refl
    copied_expr (Expr-F.Match of cases) = ap (Expr-F.Match tt) (ones case cases)
    copied_expr (Expr-F.Try body None None) = refl
    copied_expr (Expr-F.Try body None (Some last)) = refl
    copied_expr (Expr-F.Try body (Some h) None) = ap (λ c. Expr-F.Try tt (Some c) None) (handled h)
    copied_expr (Expr-F.Try body (Some h) (Some last)) = ap (λ c. Expr-F.Try tt (Some c) (Some tt)) (handled h)
    copied_expr (Expr-F.Int n) = refl
    copied_expr _ = refl

  -- ---- parts

  exprs : (es : List Expr) → map ExprTree (map expr es) ≡ map copied (map ExprTree es)
  exprs [] = refl
  exprs (e ∷ es) = ap (λ l. ExprTree (expr e) ∷ l) (exprs es)

  cases_are : (cs : List Case) → map CaseTree (map case cs) ≡ map copied (map CaseTree cs)
  cases_are [] = refl
  cases_are (c ∷ cs) = ap (λ l. CaseTree (case c) ∷ l) (cases_are cs)

  patterns : (ps : List Pattern) → map PatternTree (map pattern ps) ≡ map copied (map PatternTree ps)
  patterns [] = refl
  patterns (p ∷ ps) = ap (λ l. PatternTree (pattern p) ∷ l) (patterns ps)

  pub catch_children : (l : CatchLevel) → handler_parts ExprTree CaseTree (catch_copy l) ≡ map copied (handler_parts ExprTree CaseTree l)
  catch_children (Catch-F.Cases cases) = cases_are cases
  catch_children (Catch-F.«Catch::Any» local body) = refl

  pub pattern_children : (l : PatternLevel) → pattern_parts ExprTree PatternTree (pattern_copy l) ≡ map copied (pattern_parts ExprTree PatternTree l)
  pattern_children (Pattern-F.Make class parts) = patterns parts
  pattern_children (Pattern-F.Either parts) = patterns parts
  pattern_children Pattern-F.«Pattern::Any» = refl
  pattern_children _ = refl

  pub case_children : (p : Pattern) (g : Option Expr) (b : Expr)
      → case_parts ExprTree PatternTree (case_copy (case_level p g b)) ≡ map copied (case_parts ExprTree PatternTree (case_level p g b))
  case_children p None b = refl
  case_children p (Some e) b = refl

  module _ (handled : (c : Catch) → handler_children (catch c) ≡ map copied (handler_children c)) where
    pub expr_children : (l : ExprLevel) → expr_parts handler_children ExprTree CaseTree (expr_copy l) ≡ map copied (expr_parts handler_children ExprTree CaseTree l)
    expr_children (Expr-F.Call of class method args) = ap (λ l. ExprTree (expr of) ∷ l) (exprs args)
    expr_children (Expr-F.New class args) = exprs args
    expr_children (Expr-F.Prim op args) = exprs args
    expr_children (Expr-F.SuperCall after name args) = exprs args
    expr_children (Expr-F.StaticCall class method args) = exprs args
    expr_children (Expr-F.Block args) = exprs args
    expr_children (Expr-F.Println None) = refl
    expr_children (Expr-F.Println (Some e)) = refl
    expr_children (Expr-F.Match of cases) = ap (λ l. ExprTree (expr of) ∷ l) (cases_are cases)
    expr_children (Expr-F.Try body None None) = refl
    expr_children (Expr-F.Try body None (Some last)) = refl
    expr_children (Expr-F.Try body (Some h) None) = ap (λ l. ExprTree (expr body) ∷ l ++ []) (handled h) ∙ ap (λ l. ExprTree (expr body) ∷ l) (sym (map-append copied (handler_children h) []))
    expr_children (Expr-F.Try body (Some h) (Some last)) = ap (λ l. ExprTree (expr body) ∷ l ++ ExprTree (expr last) ∷ []) (handled h) ∙ ap (λ l. ExprTree (expr body) ∷ l) (sym (map-append copied (handler_children h) (ExprTree last ∷ [])))
    expr_children (Expr-F.Int n) = refl
    expr_children _ = refl

-- the item of a list with a function on each
pub item_of_map : {A B : Type 0} (f : A → B) (xs : List A) (i : ℕ) → slice_get (map f xs) i ≡ option_map f (slice_get xs i)
item_of_map f [] i = refl
item_of_map f (x ∷ xs) zero = refl
item_of_map f (x ∷ xs) (suc i) = item_of_map f xs i
