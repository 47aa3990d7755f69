use Rattle.std.proofs.Common.{◌≡◌, length}
use Rattle.ty_prog.specs.Find.{behind}
use Rattle.ty_prog.proofs.finding.behind.Given as goal

abbrev pub invariant-loop-class : goal.invariant-loop-class
invariant-loop-class l = behind l.after l.rest ≡ behind l.after l.linear

abbrev pub decreases-loop-class : goal.decreases-loop-class
decreases-loop-class l = length l.rest
