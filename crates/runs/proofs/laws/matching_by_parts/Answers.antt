use Rattle.runs.proofs.Matched.{parts_refine}
use Rattle.runs.proofs.laws.matching_by_parts.Goals as goal

pub returns : goal.returns
returns g c = parts_refine
