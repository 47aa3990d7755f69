use Rattle.std.proofs.Common.{◌-◌, length}
use Rattle.sl_lexer.specs.Reading.{IsRead}
use Rattle.sl_lexer.proofs.lex.Given as goal

abbrev pub invariant-step : goal.invariant-step
invariant-step l = IsRead l.chars l.front

abbrev pub decreases-step : goal.decreases-step
decreases-step l = length l.chars - l.front.at
