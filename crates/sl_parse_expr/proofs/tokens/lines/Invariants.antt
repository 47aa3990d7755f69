use Rattle.std.proofs.Common.{◌≡◌, length}
use Rattle.sl_parse_expr.specs.declared.ahead.Ahead.TheVariants as see
use Rattle.sl_parse_expr.specs.Reading.{fold, clean, expect}
use Rattle.sl_parse_expr.specs.Rules.{lines, at_line, one_more}
use Rattle.sl_parse_expr.proofs.tokens.lines.Given as goal

abbrev pub invariant-turn : goal.invariant-turn
invariant-turn l = lines l.fn.tokens ≡ fold (clean at_line) (expect see.Newline) one_more tt l.tokens

abbrev pub decreases-turn : goal.decreases-turn
decreases-turn l = length l.tokens.1
