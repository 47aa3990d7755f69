use Rattle.std.proofs.Common.{take}
use Rattle.std.specs.List.{All}
use Rattle.cf_form.specs.Pool.{text_at}
use Rattle.cf_link.specs.Faults.{IsMethodText}
use Rattle.cf_super.proofs.descriptors.are_methods.Given as goal

abbrev pub invariant-loop-method : goal.invariant-loop-method
invariant-loop-method l = All (λ m. IsMethodText (text_at l.pool m.descriptor)) (take l.method-index l.methods)
