use Rattle.std.proofs.Common.{◌≡◌, drop}
use Rattle.std.specs.List.{position_from}
use Rattle.ty_prog.specs.Find.{is_concrete}
use Rattle.ty_prog.proofs.finding.concrete.Given as goal

abbrev pub invariant-loop-i : goal.invariant-loop-i
invariant-loop-i l = position_from (is_concrete l.name) l.i (drop l.i l.methods) ≡ position_from (is_concrete l.name) 0 l.methods
