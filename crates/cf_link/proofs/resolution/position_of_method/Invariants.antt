use Rattle.std.proofs.Common.{◌≡◌, drop}
use Rattle.std.specs.List.{position_from}
use Rattle.cf_link.specs.Resolution.{is_method}
use Rattle.cf_link.proofs.resolution.position_of_method.Given as goal

abbrev pub invariant-loop-i : goal.invariant-loop-i
invariant-loop-i l =
    position_from (is_method l.name l.descriptor) l.i (drop l.i l.methods) ≡ position_from (is_method l.name l.descriptor) 0 l.methods
