use Rattle.std.proofs.Common.{◌≡◌, ◌++◌, map, take}
use Rattle.sm_state.specs.Layout.{initial}
use Rattle.sm_state.proofs.layout.add_fields.Given as goal

abbrev pub invariant-loop-field : goal.invariant-loop-field
invariant-loop-field l = l.made ≡ l.initial.made ++ map (λ f. initial l.given f.ty) (take l.field-index l.fields)
