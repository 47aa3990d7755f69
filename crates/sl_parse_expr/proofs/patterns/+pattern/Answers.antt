use Rattle.std.proofs.Common.{◌≡◌, arith}
use Rattle.sl_parse_expr.specs.PatternRules.{pattern}
use Rattle.sl_parse_expr.proofs.Loops.{deeper}
use Rattle.sl_parse_expr.proofs.patterns.+pattern.Goals as goal

pub returns-then-depth-eq0 : goal.returns-then-depth-eq0
unfolding pattern
returns-then-depth-eq0 t c = let none : c.args.depth ≡ 0 = omega arith in rw none c.no_pattern.ensures

pub returns : goal.returns
unfolding pattern
returns t c = rw (deeper (λ n. pattern n c.args.tokens.now) c.args.depth (omega arith)) c.any_pattern.ensures
