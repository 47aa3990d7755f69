use Rattle.runs.proofs.Matched.{matches_refine, matches_simulate}
use Rattle.runs.proofs.laws.matching.Goals as goal

pub returns : goal.returns
returns g c = record { simulates = matches_simulate; refines = matches_refine }
