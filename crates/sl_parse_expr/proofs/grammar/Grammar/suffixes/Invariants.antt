use Rattle.std.proofs.Common.{◌≡◌, length}
use Rattle.sl_parse_expr.specs.Reading.{fold, clean}
use Rattle.sl_parse_expr.specs.Levels.{expr}
use Rattle.sl_parse_expr.specs.PatternRules.{pattern}
use Rattle.sl_parse_expr.specs.Rules.{suffixes, suffix, at_suffix, add_suffix}
use Rattle.sl_parse_expr.proofs.grammar.Grammar.suffixes.Given as goal

abbrev pub invariant-turn : goal.invariant-turn
invariant-turn g l = suffixes (expr l.fn.self.depth) (pattern l.fn.self.depth) l.fn.all l.fn.tokens ≡ fold (clean at_suffix) (suffix (expr l.fn.self.depth) (pattern l.fn.self.depth)) add_suffix (l.chain, l.found) l.tokens

abbrev pub decreases-turn : goal.decreases-turn
decreases-turn g l = length l.tokens.1
