use Rattle.std.proofs.Common.{◌≡◌, length}
use Rattle.ty_typed.specs.Members.{types_of_fields}
use Rattle.ty_typed.proofs.member_types.next_type.Given as goal

abbrev pub invariant-loop-field : goal.invariant-loop-field
invariant-loop-field l = types_of_fields l.fields l.rest ≡ types_of_fields l.fields l.list

abbrev pub decreases-loop-field : goal.decreases-loop-field
decreases-loop-field l = length l.rest
