use Rattle.std.proofs.Common.{◌≡◌, map, take}
use Rattle.ty_complete.specs.Complete.{file}
use Rattle.ty_complete.proofs.files.files.Given as goal

abbrev pub invariant-loop-class : goal.invariant-loop-class
invariant-loop-class l =
    l.names ≡ map (λ c. file c.kind c.name) (take l.class-index l.classes)
