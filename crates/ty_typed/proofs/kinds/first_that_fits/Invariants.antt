use Rattle.std.proofs.Common.{◌≡◌, drop}
use Rattle.ty_typed.specs.Kinds.{first_that_fits}
use Rattle.ty_typed.proofs.kinds.first_that_fits.Given as goal

abbrev pub invariant-loop-choice : goal.invariant-loop-choice
invariant-loop-choice l = first_that_fits (drop l.choice-index l.choices) l.fit ≡ first_that_fits l.choices l.fit
