use Rattle.std.proofs.Common.{take}
use Rattle.std.specs.List.{All}
use Rattle.cf_form.specs.Pool.{text_at}
use Rattle.cf_link.specs.Faults.{IsFieldText}
use Rattle.cf_super.proofs.descriptors.are_fields.Given as goal

abbrev pub invariant-loop-field : goal.invariant-loop-field
invariant-loop-field l = All (λ f. IsFieldText (text_at l.pool f.descriptor)) (take l.field-index l.fields)
