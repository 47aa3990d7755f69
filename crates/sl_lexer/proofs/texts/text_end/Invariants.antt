use Rattle.std.proofs.Common.{◌≤◌, ◌-◌, length}
use Rattle.sl_lexer.proofs.Parts.{So}
use Rattle.sl_lexer.proofs.texts.text_end.Given as goal

abbrev pub invariant-part : goal.invariant-part
invariant-part l = record { within : l.at ≤ length l.left; so_far : So l.fn.left l.letters l.at }

abbrev pub decreases-part : goal.decreases-part
decreases-part l = length l.left - l.at
