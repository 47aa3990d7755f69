use Rattle.std.proofs.Common.{IsTrue, take}
use Rattle.std.specs.List.{All}
use Rattle.ty_walk.specs.Parts.{KeptInMethod}
use Rattle.ty_walk.proofs.walking.holds_in_methods.Given as goal

abbrev pub invariant-loop-method : goal.invariant-loop-method
invariant-loop-method g l = All (KeptInMethod (λ node. IsTrue (g.R.Rule.holds l.rule node))) (take l.method-index l.methods)
