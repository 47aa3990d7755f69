-- What a try of a thread answers and leaves, by what the thread does next.
use Rattle.runs.specs.declared.next_step.NextStep.{NextStep}
use Rattle.runs.specs.declared.next_step.NextStep.TheVariants
use Rattle.runs.specs.System.{Next, Goes, Waits, Ended, Stuck}

-- what a thread can do
abbrev pub able : {S : Type 0} → Next S → NextStep
able (Goes after) = TheVariants.Moves
able Waits = TheVariants.Waits
able Ended = TheVariants.Ended
able Stuck = TheVariants.Stuck

-- the state that a try leaves
abbrev pub after : {S : Type 0} → S → Next S → S
after x (Goes y) = y
after x Waits = x
after x Ended = x
after x Stuck = x
