use Rattle.std.proofs.Common.{◌≡◌, take}
use Rattle.std.specs.List.{filter}
use Rattle.ty_good.specs.Traits.{is_mixed_in}
use Rattle.ty_good.proofs.traits.mixins_of.Given as goal

abbrev pub invariant-loop-number : goal.invariant-loop-number
invariant-loop-number l = l.mixins.items ≡ filter (is_mixed_in l.classes l.above) (take l.number-index l.number-items)
