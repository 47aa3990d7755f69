use Rattle.runs.proofs.Making.{comes_made}
use Rattle.runs.proofs.run_laws.batches.Goals as goal

pub returns : goal.returns
returns g c = comes_made
