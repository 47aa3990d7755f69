use Rattle.vm_local.proofs.Staying.{frames_run}
use Rattle.vm_local.proofs.laws.batches.Goals as goal

pub returns : goal.returns
returns c = record { steps = frames_run }
