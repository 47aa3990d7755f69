use Rattle.std.proofs.Common.{◌≡◌, length}
use Rattle.sl_parse_expr.specs.Reading.{fold, clean}
use Rattle.sl_parse_expr.specs.Levels.{expr}
use Rattle.sl_parse_expr.specs.PatternRules.{pattern}
use Rattle.sl_parse_expr.specs.Rules.{more_cases, case_reader, at_case, added}
use Rattle.sl_parse_expr.proofs.grammar.Grammar.more_cases.Given as goal

abbrev pub invariant-turn : goal.invariant-turn
invariant-turn g l = more_cases (expr l.fn.self.depth) (pattern l.fn.self.depth) l.fn.tokens ≡ fold (clean at_case) (case_reader (expr l.fn.self.depth) (pattern l.fn.self.depth)) added l.found l.tokens

abbrev pub decreases-turn : goal.decreases-turn
decreases-turn g l = length l.tokens.1
