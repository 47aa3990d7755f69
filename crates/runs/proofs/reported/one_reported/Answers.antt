use Rattle.runs.proofs.Reporting.{reported_once}
use Rattle.runs.proofs.reported.one_reported.Goals as goal

pub returns : goal.returns
returns c = reported_once
