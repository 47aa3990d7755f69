-- A sum over the nodes of a tree: what each node's shape counts, added up.
use Rattle.std.specs.Prelude.{ℕ, ◌+◌, List, sum, map}
use Rattle.ty_prog.specs.declared.catch.Catch.TheOpen.{Expr-F, Catch-F, Pattern-F, Case-F}
use Rattle.ty_prog.specs.declared.catch.Catch.TheFolds.{fold-Expr, fold-Case, fold-Pattern}
use Rattle.ty_prog.specs.Shape.{Shape, ExprShape, CaseShape, PatternShape, ConstructorShape, StageShape, CatchForm, catch_form, expr_form, pattern_form, case_form}
use Rattle.ty_prog.specs.Tree.{Tree, ExprTree, CaseTree, PatternTree, ConstructorTree, StageTree, children, handler_parts, expr_parts, case_parts, pattern_parts}

-- a handler whose parts are summed: its form, and the sums
abbrev pub Summed : Type 0
Summed = CatchForm × List ℕ

module _ (number : Shape → ℕ) where
  -- one level whose parts are summed
  abbrev pub handler_sum : Catch-F Summed ℕ ℕ ℕ → Summed
  handler_sum c = (catch_form c, handler_parts (λ n. n) (λ n. n) c)

  abbrev pub expr_sum : Expr-F Summed ℕ ℕ ℕ → ℕ
  expr_sum e = number (ExprShape (expr_form (λ c. c.0) e)) + sum (expr_parts (λ c. c.1) (λ n. n) (λ n. n) e)

  abbrev pub pattern_sum : Pattern-F Summed ℕ ℕ ℕ → ℕ
  pattern_sum p = number (PatternShape (pattern_form p)) + sum (pattern_parts (λ n. n) (λ n. n) p)

  abbrev pub case_sum : Case-F Summed ℕ ℕ ℕ → ℕ
  case_sum c = number (CaseShape (case_form c)) + sum (case_parts (λ n. n) (λ n. n) c)

  -- the sum over a tree that may be a child of a constructor
  abbrev pub part_sum : Tree → ℕ
  part_sum (ExprTree e) = fold-Expr Summed ℕ ℕ ℕ handler_sum expr_sum pattern_sum case_sum e
  part_sum (CaseTree c) = fold-Case Summed ℕ ℕ ℕ handler_sum expr_sum pattern_sum case_sum c
  part_sum (PatternTree p) = fold-Pattern Summed ℕ ℕ ℕ handler_sum expr_sum pattern_sum case_sum p
  part_sum (ConstructorTree class) = number (ConstructorShape class)
  part_sum (StageTree stage) = number (StageShape stage)

  -- the sum over a tree
  abbrev pub sum_over : Tree → ℕ
  sum_over (ConstructorTree class) = number (ConstructorShape class) + sum (map part_sum (children (ConstructorTree class)))
  sum_over part = part_sum part

-- how many nodes a tree has
abbrev pub nodes : Tree → ℕ
nodes = sum_over (λ shape. 1)
