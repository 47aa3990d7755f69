use Rattle.std.proofs.Common.{◌≡◌, drop}
use Rattle.std.specs.List.{position_from}
use Rattle.cf_link.specs.Resolution.{is_field}
use Rattle.cf_link.proofs.resolution.position_of_field.Given as goal

abbrev pub invariant-loop-i : goal.invariant-loop-i
invariant-loop-i l =
    position_from (is_field l.name l.descriptor) l.i (drop l.i l.fields) ≡ position_from (is_field l.name l.descriptor) 0 l.fields
