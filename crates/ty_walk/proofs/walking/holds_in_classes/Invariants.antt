use Rattle.std.proofs.Common.{IsTrue, take}
use Rattle.std.specs.List.{All}
use Rattle.ty_walk.specs.Everywhere.{AllNodesOf}
use Rattle.ty_walk.proofs.walking.holds_in_classes.Given as goal

abbrev pub invariant-loop-class : goal.invariant-loop-class
invariant-loop-class g l = All (AllNodesOf (λ node. IsTrue (g.R.Rule.holds l.rule node))) (take l.class-index l.classes)
