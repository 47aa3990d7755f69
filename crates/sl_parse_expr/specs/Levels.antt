-- Expressions to a depth.
use Rattle.std.specs.Prelude.{ℕ, zero, suc}
use Rattle.sl_ast.specs.declared.expr.Expr.{Expr}
use Rattle.sl_parse_expr.specs.Reading.{Reader}
use Rattle.sl_parse_expr.specs.Rules.{any, too_deep}
use Rattle.sl_parse_expr.specs.Starts.{begins_expr}
use Rattle.sl_parse_expr.specs.PatternRules.{pattern}

-- with expressions and patterns nested no deeper than the number
unfoldable pub expr : ℕ → Reader Expr
expr zero = too_deep begins_expr
expr (suc n) = any (expr n) (pattern n)
