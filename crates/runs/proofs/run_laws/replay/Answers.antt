use Rattle.runs.proofs.Making.{history_more, whole_append}
use Rattle.runs.proofs.Replaying.{reach-append, tries-add}
use Rattle.runs.proofs.run_laws.replay.Goals as goal

pub returns : goal.returns
returns g c = record { joined = reach-append; split = tries-add; whole = whole_append; history = history_more }
