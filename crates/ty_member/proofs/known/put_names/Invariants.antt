use Rattle.std.proofs.Common.{◌≡◌, map, drop}
use Rattle.ty_member.specs.Names.{with_names}
use Rattle.ty_member.proofs.known.put_names.Given as goal

abbrev pub invariant-loop-class : goal.invariant-loop-class
invariant-loop-class l =
    with_names l.files (map (λ c. c.name) (drop l.class-index l.classes)) ≡ with_names l.initial.files (map (λ c. c.name) l.classes)
