use Rattle.std.proofs.Common.{◌≡◌, arith}
use Rattle.sl_parse_expr.specs.Levels.{expr}
use Rattle.sl_parse_expr.proofs.Loops.{deeper}
use Rattle.sl_parse_expr.proofs.reading.+read_level.Goals as goal

pub returns-then-depth-eq0 : goal.returns-then-depth-eq0
unfolding expr
returns-then-depth-eq0 t c = let none : c.args.depth ≡ 0 = omega arith in rw none c.no_expr.ensures

pub returns : goal.returns
unfolding expr
returns t c = rw (deeper (λ n. expr n c.args.tokens.now) c.args.depth (omega arith)) c.any.ensures
