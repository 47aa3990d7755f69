use Rattle.std.proofs.Common.{◌≡◌, length}
use Rattle.sl_parse_expr.specs.Reading.{fold, clean}
use Rattle.sl_parse_expr.specs.Levels.{expr}
use Rattle.sl_parse_expr.specs.PatternRules.{pattern}
use Rattle.sl_parse_expr.specs.Rules.{stats, block_item, at_item, add_item}
use Rattle.sl_parse_expr.specs.Starts.{begins_stat}
use Rattle.sl_parse_expr.proofs.grammar.Grammar.stats.Given as goal

abbrev pub invariant-turn : goal.invariant-turn
invariant-turn g l = stats (expr l.fn.self.depth) (pattern l.fn.self.depth) l.fn.tokens ≡ fold (clean (at_item begins_stat)) (block_item (expr l.fn.self.depth) (pattern l.fn.self.depth)) add_item (l.apart, l.found) l.tokens

abbrev pub decreases-turn : goal.decreases-turn
decreases-turn g l = length l.tokens.1
