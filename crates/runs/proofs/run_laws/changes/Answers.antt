use Rattle.runs.proofs.Putting.{put-other, put-same}
use Rattle.runs.proofs.run_laws.changes.Goals as goal

pub returns : goal.returns
returns g c = record { same = put-same; other = put-other }
