-- One tree takes no more than another, by the sizes of both.
use Rattle.std.specs.Prelude.{ℕ, ◌≤◌, ◌≡◌}
use Rattle.ty_prog.specs.declared.catch.Catch.TheOpen.{Expr-F, Catch-F, Pattern-F, Case-F}
use Rattle.ty_prog.specs.declared.catch.Catch.TheFolds.{map-Expr, map-Case, map-Pattern, map-Catch}
use Rattle.ty_prog.specs.declared.expr.Expr.{Expr, roll-Expr}
use Rattle.ty_prog.specs.declared.case.Case.{Case, roll-Case}
use Rattle.ty_prog.specs.declared.pattern.Pattern.{Pattern, roll-Pattern}
use Rattle.ty_prog.specs.declared.catch.Catch.{Catch, roll-Catch}
use Rattle.ty_prog.specs.Tree.{ExprLevel, CatchLevel, PatternLevel, CaseLevel}
use Rattle.ty_room.specs.declared.size.Size.{Size}
use Rattle.ty_room.specs.Ahead.{ahead_of}
use Rattle.ty_room.specs.Sizing.{handler_step, expr_step, pattern_step, case_step}

-- no more of anything: so it fits wherever the other does. Only literals decide a branch by themselves
pub record NoMore (low high : Size) : Type 0 where
  pub value : low.value ≤ high.value
  pub test : low.test ≤ high.test
  pub fixed : low.fixed ≡ high.fixed
  pub tries : low.tries ≤ high.tries
  pub kept : low.kept ≡ high.kept
  pub entries : low.entries ≤ high.entries
  pub supers : low.supers ≤ high.supers

-- a part, as a pass leaves it and as it was
pub record Part : Type 0 where
  pub low : Size
  pub high : Size
  pub no_more : NoMore low high

-- a part as a pass leaves it
abbrev pub low_of : Part → Size
low_of part = part.low

-- a part as it was
abbrev pub high_of : Part → Size
high_of part = part.high

-- a level of an expression with its parts as a pass leaves them
abbrev pub low_expr : Expr-F Part Part Part Part → Expr-F Size Size Size Size
low_expr = map-Expr Part Part Part Part Size Size Size Size low_of low_of low_of low_of

-- a level of an expression with its parts as they were
abbrev pub high_expr : Expr-F Part Part Part Part → Expr-F Size Size Size Size
high_expr = map-Expr Part Part Part Part Size Size Size Size high_of high_of high_of high_of

-- the same of a handler, as a pass leaves its parts
abbrev pub low_handler : Catch-F Part Part Part Part → Catch-F Size Size Size Size
low_handler = map-Catch Part Part Part Part Size Size Size Size low_of low_of low_of low_of

-- the same of a handler, with its parts as they were
abbrev pub high_handler : Catch-F Part Part Part Part → Catch-F Size Size Size Size
high_handler = map-Catch Part Part Part Part Size Size Size Size high_of high_of high_of high_of

-- the same of a pattern, as a pass leaves its parts
abbrev pub low_pattern : Pattern-F Part Part Part Part → Pattern-F Size Size Size Size
low_pattern = map-Pattern Part Part Part Part Size Size Size Size low_of low_of low_of low_of

-- the same of a pattern, with its parts as they were
abbrev pub high_pattern : Pattern-F Part Part Part Part → Pattern-F Size Size Size Size
high_pattern = map-Pattern Part Part Part Part Size Size Size Size high_of high_of high_of high_of

-- the same of a case, as a pass leaves its parts
abbrev pub low_case : Case-F Part Part Part Part → Case-F Size Size Size Size
low_case = map-Case Part Part Part Part Size Size Size Size low_of low_of low_of low_of

-- the same of a case, with its parts as they were
abbrev pub high_case : Case-F Part Part Part Part → Case-F Size Size Size Size
high_case = map-Case Part Part Part Part Size Size Size Size high_of high_of high_of high_of

-- what a pass makes of the trees of a program, by sizes: each node takes no more than the node would over what its parts
-- became, when k lowerings were done
pub record MakesNoMore (k : ℕ) (handler : Catch → Size) (expr : Expr → Size) (pattern : Pattern → Size) (case : Case → Size) : Type 0 where
  pub of_expr : (level : ExprLevel) → NoMore (expr (roll-Expr level)) (expr_step (ahead_of k) (map-Expr Catch Expr Pattern Case Size Size Size Size handler expr pattern case level))
  pub of_handler : (level : CatchLevel) → NoMore (handler (roll-Catch level)) (handler_step (map-Catch Catch Expr Pattern Case Size Size Size Size handler expr pattern case level))
  pub of_pattern : (level : PatternLevel) → NoMore (pattern (roll-Pattern level)) (pattern_step (map-Pattern Catch Expr Pattern Case Size Size Size Size handler expr pattern case level))
  pub of_case : (level : CaseLevel) → NoMore (case (roll-Case level)) (case_step (map-Case Catch Expr Pattern Case Size Size Size Size handler expr pattern case level))
