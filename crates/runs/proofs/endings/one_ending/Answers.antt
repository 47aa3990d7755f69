use Rattle.runs.proofs.Judged.{halts_once, halts_moving, ends_once, given_once}
use Rattle.runs.proofs.endings.one_ending.Goals as goal

pub returns : goal.returns
returns g c = record { halting = halts_once; moving = halts_moving; ends = λ s left x. ends_once s x left; given = given_once }
