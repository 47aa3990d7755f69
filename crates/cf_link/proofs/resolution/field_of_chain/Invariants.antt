use Rattle.std.proofs.Common.{◌≡◌, drop}
use Rattle.cf_link.specs.Resolution.{first_found, field_in}
use Rattle.cf_link.proofs.resolution.field_of_chain.Given as goal

abbrev pub invariant-loop-class : goal.invariant-loop-class
invariant-loop-class l =
    first_found (field_in l.classes l.name l.descriptor) (drop l.class-index l.chain) ≡ first_found (field_in l.classes l.name l.descriptor) l.chain
