use Rattle.ty_typed.proofs.Upwards.{fits_up}
use Rattle.ty_typed.proofs.laws.fitting.Goals as goal

pub returns : goal.returns
returns c = λ classes closed types middle upper below above. fits_up c.conformance.ensures.transitive classes closed middle upper above types below
