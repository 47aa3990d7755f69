-- The items of the loops over members and definitions take a token each.
use Rattle.std.proofs.Common.{ℕ, refl}
use Rattle.sl_ast.specs.declared.expr.Expr.{Expr}
use Rattle.sl_ast.specs.declared.pattern.Pattern.{Pattern}
use Rattle.sl_parse_expr.specs.Reading.{Reader}
use Rattle.sl_parse_expr.specs.Levels.{expr}
use Rattle.sl_parse_expr.specs.PatternRules.{pattern}
use Rattle.sl_parse_expr.proofs.Loops.{Eats, eats_of}
use Rattle.sl_parse_tmpl.specs.Rules.{body_item, unit_item}
use Rattle.sl_parse_tmpl.proofs.Good.{good_body_item, good_unit_item}

pub record FileItems (exprs : Reader Expr) (patterns : Reader Pattern) : Type 0 where
  pub member : Eats (body_item exprs patterns)
  pub top : Eats (unit_item exprs patterns)

pub file_items : (n : ℕ) → FileItems (expr n) (pattern n)
file_items n = record { member = eats_of n (good_body_item n) refl; top = eats_of n (good_unit_item n) refl }
