use Rattle.std.proofs.Common.{◌≡◌, length}
use Rattle.sl_parse_expr.specs.Reading.{fold, clean}
use Rattle.sl_parse_expr.specs.Rules.{added}
use Rattle.sl_parse_tmpl.specs.Rules.{modifiers, modifier, at_modifier}
use Rattle.sl_parse_tmpl.proofs.modifiers.modifiers.Given as goal

abbrev pub invariant-turn : goal.invariant-turn
invariant-turn l = modifiers l.fn.tokens ≡ fold (clean at_modifier) modifier added l.found l.tokens

abbrev pub decreases-turn : goal.decreases-turn
decreases-turn l = length l.tokens.1
