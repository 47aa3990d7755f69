-- The grammar where nesting is bounded up to a place in the tokens alone: until k tokens are left, expressions and
-- patterns nest at most n deep, and what begins there nests at most m deeper.
use Rattle.std.specs.Prelude.{◌≤◌, ℕ, zero, suc, List, length}
use Rattle.sl_ast.specs.declared.token.Token.{Token}
use Rattle.sl_ast.specs.declared.expr.Expr.{Expr}
use Rattle.sl_ast.specs.declared.pattern.Pattern.{Pattern}
use Rattle.sl_parse_expr.specs.Grammar.{IsAnyExpr, IsAnyPattern, IsExpr, IsPattern}

-- a pattern, as deep as n until k tokens are left
abbrev pub IsPatternUntil : ℕ → ℕ → ℕ → Pattern → List Token → List Token → Type 0
IsPatternUntil k m zero p a r = (length a ≤ k) × IsPattern m p a r
IsPatternUntil k m (suc n) p a r = IsAnyPattern (IsPatternUntil k m n) p a r

-- an expression, as deep as n until k tokens are left
abbrev pub IsExprUntil : ℕ → ℕ → ℕ → Expr → List Token → List Token → Type 0
IsExprUntil k m zero e a r = (length a ≤ k) × IsExpr m e a r
IsExprUntil k m (suc n) e a r = IsAnyExpr (IsExprUntil k m n) (IsPatternUntil k m n) e a r
