use Rattle.std.proofs.Common.{refl}
use Rattle.runs.proofs.rounds.go_round.Goals as goal

pub returns-clause-rounds : goal.returns-clause-rounds
returns-clause-rounds g c =
    let made = c.in_ok-rounds.ensures.rounds in
    let ends = rw c.in_ok-rounds.ensures.system at c.ended.ensures in
    (made.0, made.1, made.2, ends _ (made.2.stops refl))
