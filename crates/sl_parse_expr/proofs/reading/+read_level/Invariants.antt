use Rattle.sl_parse_expr.proofs.reading.+read_level.Given as goal

abbrev pub decreases-read_level : goal.decreases-read_level
decreases-read_level l = l.depth
