use Rattle.std.proofs.Common.{◌≡◌, length}
use Rattle.sl_parse_expr.specs.Reading.{fold, clean}
use Rattle.sl_parse_expr.specs.Rules.{at_item, add_item}
use Rattle.sl_parse_expr.specs.Levels.{expr}
use Rattle.sl_parse_expr.specs.PatternRules.{pattern}
use Rattle.sl_parse_tmpl.specs.Words.{begins_member}
use Rattle.sl_parse_tmpl.specs.Rules.{members, body_item}
use Rattle.sl_parse_tmpl.proofs.members.members.Given as goal

abbrev pub invariant-turn : goal.invariant-turn
invariant-turn l = members (expr l.fn.depth) (pattern l.fn.depth) l.fn.tokens ≡ fold (clean (at_item begins_member)) (body_item (expr l.fn.depth) (pattern l.fn.depth)) add_item (l.apart, l.found) l.tokens

abbrev pub decreases-turn : goal.decreases-turn
decreases-turn l = length l.tokens.1
