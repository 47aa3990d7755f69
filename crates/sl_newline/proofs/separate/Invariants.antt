use Rattle.std.proofs.Common.{length}
use Rattle.std.specs.Option.{option_copied}
use Rattle.sl_newline.proofs.Turn.{Kept}
use Rattle.sl_newline.proofs.separate.Given as goal

abbrev pub invariant-turn : goal.invariant-turn
invariant-turn l = Kept l.chars l.fn.tokens l.open l.left l.found.items (option_copied l.last)

abbrev pub decreases-turn : goal.decreases-turn
decreases-turn l = length l.left
