use Rattle.std.proofs.Common.{◌≡◌, length}
use Rattle.sl_parse_expr.specs.Reading.{fold, clean}
use Rattle.sl_parse_expr.specs.Rules.{added, at_comma}
use Rattle.sl_parse_tmpl.specs.Rules.{more_params, next_param}
use Rattle.sl_parse_tmpl.proofs.params.more_params.Given as goal

abbrev pub invariant-turn : goal.invariant-turn
invariant-turn l = more_params l.fn.first l.fn.tokens ≡ fold (clean at_comma) next_param added l.found l.tokens

abbrev pub decreases-turn : goal.decreases-turn
decreases-turn l = length l.tokens.1
