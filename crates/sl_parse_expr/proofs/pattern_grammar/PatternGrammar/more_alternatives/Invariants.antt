use Rattle.std.proofs.Common.{◌≡◌, length}
use Rattle.sl_parse_expr.specs.Reading.{fold, clean}
use Rattle.sl_parse_expr.specs.PatternRules.{pattern, more_alternatives, next_alternative}
use Rattle.sl_parse_expr.specs.Rules.{at_bar, added}
use Rattle.sl_parse_expr.proofs.pattern_grammar.PatternGrammar.more_alternatives.Given as goal

abbrev pub invariant-turn : goal.invariant-turn
invariant-turn g l = more_alternatives (pattern l.fn.self.depth) l.fn.tokens ≡ fold (clean at_bar) (next_alternative (pattern l.fn.self.depth)) added l.found l.tokens

abbrev pub decreases-turn : goal.decreases-turn
decreases-turn g l = length l.tokens.1
