use Rattle.std.proofs.Common.{◌≡◌, length}
use Rattle.cf_link.specs.Parsing.{type_in_front, behind_arrays}
use Rattle.cf_link.proofs.descriptors.type_in_front.Given as goal

abbrev pub invariant-loop-is_array : goal.invariant-loop-is_array
invariant-loop-is_array l = behind_arrays l.is_array (type_in_front l.rest) ≡ type_in_front l.bytes

abbrev pub decreases-loop-is_array : goal.decreases-loop-is_array
decreases-loop-is_array l = length l.rest
