use Rattle.std.proofs.Common.{length}
use Rattle.std.specs.Prelude.{◌↔◌}
use Rattle.ty_typed.specs.Members.{types_of_fields}
use Rattle.ty_typed.specs.Parts.{Begins}
use Rattle.ty_typed.proofs.bodies.begins_with_fields.Given as goal

abbrev pub invariant-loop-ty : goal.invariant-loop-ty
invariant-loop-ty l = Begins (types_of_fields l.fields l.given) l.rest ↔ Begins (types_of_fields l.fields l.params) l.locals

abbrev pub decreases-loop-ty : goal.decreases-loop-ty
decreases-loop-ty l = length l.rest
