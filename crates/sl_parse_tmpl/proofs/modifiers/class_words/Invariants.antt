use Rattle.std.proofs.Common.{◌≡◌, length}
use Rattle.sl_parse_expr.specs.Reading.{fold, clean}
use Rattle.sl_parse_expr.specs.Rules.{added}
use Rattle.sl_parse_tmpl.specs.Rules.{class_words, class_modifier, at_class_modifier}
use Rattle.sl_parse_tmpl.proofs.modifiers.class_words.Given as goal

abbrev pub invariant-turn : goal.invariant-turn
invariant-turn l = class_words l.fn.tokens ≡ fold (clean at_class_modifier) class_modifier added l.found l.tokens

abbrev pub decreases-turn : goal.decreases-turn
decreases-turn l = length l.tokens.1
