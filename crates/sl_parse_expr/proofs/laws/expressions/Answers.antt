use Rattle.sl_parse_expr.proofs.OneTree.{is_read, one_tree}
use Rattle.sl_parse_expr.proofs.laws.expressions.Goals as goal

pub returns : goal.returns
returns c = record { read = is_read; one = one_tree }
