use Rattle.sl_parse_expr.proofs.Until.{sum}
use Rattle.sl_parse_expr.proofs.laws.depths.Goals as goal

pub returns : goal.returns
returns c = record { sum = sum }
