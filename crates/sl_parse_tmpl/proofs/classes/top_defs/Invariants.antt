use Rattle.std.proofs.Common.{◌≡◌, length}
use Rattle.sl_parse_expr.specs.Reading.{fold, clean}
use Rattle.sl_parse_expr.specs.Rules.{at_item, add_item}
use Rattle.sl_parse_expr.specs.Levels.{expr}
use Rattle.sl_parse_expr.specs.PatternRules.{pattern}
use Rattle.sl_parse_tmpl.specs.Words.{begins_top}
use Rattle.sl_parse_tmpl.specs.Rules.{top_defs, unit_item}
use Rattle.sl_parse_tmpl.proofs.classes.top_defs.Given as goal

abbrev pub invariant-turn : goal.invariant-turn
invariant-turn l = top_defs (expr l.fn.depth) (pattern l.fn.depth) l.fn.tokens ≡ fold (clean (at_item begins_top)) (unit_item (expr l.fn.depth) (pattern l.fn.depth)) add_item (l.apart, l.found) l.tokens

abbrev pub decreases-turn : goal.decreases-turn
decreases-turn l = length l.tokens.1
