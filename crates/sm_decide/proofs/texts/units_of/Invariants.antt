use Rattle.std.proofs.Common.{◌≡◌}
use Rattle.sm_rule.specs.Values.{units}
use Rattle.sm_decide.proofs.texts.units_of.Given as goal

abbrev pub invariant-loop-character : goal.invariant-loop-character
invariant-loop-character l = l.count ≡ units l.yielded
