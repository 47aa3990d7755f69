use Rattle.std.proofs.Common.{◌≡◌, drop}
use Rattle.sl_newline.specs.Gaps.{has_blank_line}
use Rattle.sl_newline.proofs.Blank.{blank_from}
use Rattle.sl_newline.proofs.gaps.blank_line.Given as goal

abbrev pub invariant-loop-c : goal.invariant-loop-c
invariant-loop-c l = has_blank_line l.gap ≡ blank_from l.fresh (drop l.c-index l.gap)
