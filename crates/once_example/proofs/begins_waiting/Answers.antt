use Rattle.once_example.proofs.Beginners.{no_other, refines}
use Rattle.once_example.proofs.begins_waiting.Goals as goal

pub returns : goal.returns
returns g c = record { refines = refines; needed = no_other }
