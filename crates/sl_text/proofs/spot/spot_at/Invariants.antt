use Rattle.std.proofs.Common.{◌≤◌, ◌+◌}
use Rattle.sl_text.specs.Spot.{IsSpot}
use Rattle.sl_text.proofs.spot.spot_at.Given as goal

abbrev pub invariant-loop-i : goal.invariant-loop-i
invariant-loop-i l = record { spot : IsSpot l.text l.i l.line l.column; line : l.line ≤ l.i + 1; column : l.column ≤ l.i + 1 }
