use Rattle.once_example.proofs.Once.{refines, waiters}
use Rattle.once_example.proofs.Above.{implements}
use Rattle.once_example.proofs.exchanges_refine.Goals as goal

pub returns : goal.returns
returns c = record { refines = refines; implements = implements; waiters = waiters }
