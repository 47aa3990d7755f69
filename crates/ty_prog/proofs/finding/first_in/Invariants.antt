use Rattle.std.proofs.Common.{◌≡◌, drop}
use Rattle.ty_prog.specs.Find.{first_in}
use Rattle.ty_prog.proofs.finding.first_in.Given as goal

abbrev pub invariant-loop-class : goal.invariant-loop-class
invariant-loop-class l = first_in l.classes l.name (drop l.class-index l.linear) ≡ first_in l.classes l.name l.linear
