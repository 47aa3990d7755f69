use Rattle.std.proofs.Common.{◌≡◌, length}
use Rattle.sl_parse_expr.specs.Reading.{fold, clean}
use Rattle.sl_parse_expr.specs.PatternRules.{pattern, more_parts, next_part}
use Rattle.sl_parse_expr.specs.Rules.{at_comma, added}
use Rattle.sl_parse_expr.proofs.pattern_grammar.PatternGrammar.more_parts.Given as goal

abbrev pub invariant-turn : goal.invariant-turn
invariant-turn g l = more_parts (pattern l.fn.self.depth) l.fn.first l.fn.tokens ≡ fold (clean at_comma) (next_part (pattern l.fn.self.depth)) added l.found l.tokens

abbrev pub decreases-turn : goal.decreases-turn
decreases-turn g l = length l.tokens.1
