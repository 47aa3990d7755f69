use Rattle.std.proofs.Common.{◌≡◌, length}
use Rattle.sl_parse_expr.specs.Reading.{fold, clean}
use Rattle.sl_parse_expr.specs.Rules.{added}
use Rattle.sl_parse_tmpl.specs.Rules.{traits, next_trait, at_with}
use Rattle.sl_parse_tmpl.proofs.templates.traits.Given as goal

abbrev pub invariant-turn : goal.invariant-turn
invariant-turn l = traits l.fn.tokens ≡ fold (clean at_with) next_trait added l.found l.tokens

abbrev pub decreases-turn : goal.decreases-turn
decreases-turn l = length l.tokens.1
