use Rattle.std.proofs.Common.{◌≡◌, take}
use Rattle.std.specs.List.{All}
use Rattle.ty_good.specs.Traits.{mixins_of}
use Rattle.ty_good.proofs.traits.have_mixins.Given as goal

abbrev pub invariant-loop-class : goal.invariant-loop-class
invariant-loop-class l = All (λ class. class.mixins ≡ mixins_of l.classes class) (take l.class-index l.some)
