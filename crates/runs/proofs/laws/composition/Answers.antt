use Rattle.runs.proofs.Composes.{refines_trans, refines_always}
use Rattle.runs.proofs.Refining.{refines_more, refines_refl}
use Rattle.runs.proofs.laws.composition.Goals as goal

pub returns : goal.returns
returns g c = record { composes = refines_trans; always = refines_always; more = refines_more; itself = refines_refl }
