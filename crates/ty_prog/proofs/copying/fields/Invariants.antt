use Rattle.std.proofs.Common.{◌≡◌, take}
use Rattle.ty_prog.proofs.copying.fields.Given as goal

abbrev pub invariant-loop-field : goal.invariant-loop-field
invariant-loop-field l = l.made ≡ take l.field-index l.field-items
