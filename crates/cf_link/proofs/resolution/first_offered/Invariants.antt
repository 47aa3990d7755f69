use Rattle.std.proofs.Common.{◌≡◌, drop}
use Rattle.cf_link.specs.Resolution.{first_found, offered_in}
use Rattle.cf_link.proofs.resolution.first_offered.Given as goal

abbrev pub invariant-loop-class : goal.invariant-loop-class
invariant-loop-class l =
    first_found (offered_in l.classes l.name l.descriptor) (drop l.class-index l.line) ≡ first_found (offered_in l.classes l.name l.descriptor) l.line
