-- How a run ends, by the state in which it stopped.
use Rattle.std.specs.Prelude.{◌≡◌, ℕ, ◌<◌, ◌-◌, List}
use Rattle.runs.specs.declared.turn.Turn.{Turn}
use Rattle.runs.specs.declared.ending.Ending.{Ending}
use Rattle.runs.specs.declared.ending.Ending.TheVariants.{Finished, Deadlock, Budget, Stuck, BadTurn}
use Rattle.runs.specs.System.{System}
use Rattle.runs.specs.Waiting.{HasEnded, DoesWait}
use Rattle.runs.specs.Planned.{Moves, NoneMoves, IsStuck, IsBadTurn}

-- some thread can move
abbrev pub SomeMoves : {Event Place S : Type 0} → System Event Place S → S → Type 0
SomeMoves s x = (t : ℕ) × Moves (s.next x t)

-- no thread stands at a stuck step
abbrev pub NoneStuck : {Event Place S : Type 0} → System Event Place S → S → Type 0
NoneStuck s x = (t : ℕ) → IsStuck (s.next x t) → ⊥

-- a run that stopped here ends so, whatever is left of its budget: each ending that the state alone decides
abbrev pub EndsByState : {Event Place S : Type 0} → System Event Place S → S → Ending → Type 0
EndsByState s x Finished = (t : ℕ) → HasEnded s x t
EndsByState s x Deadlock = NoneStuck s x × NoneMoves s x × ((t : ℕ) × DoesWait s x t)
EndsByState s x (Stuck t) = IsStuck (s.next x t) × ((u : ℕ) → u < t → IsStuck (s.next x u) → ⊥)
EndsByState s x Budget = ⊥
EndsByState s x (BadTurn i) = ⊥

-- a run that stopped here with so many moves left ends so
abbrev pub EndsAs : {Event Place S : Type 0} → System Event Place S → ℕ → S → Ending → Type 0
EndsAs s left x Budget = (left ≡ 0) × SomeMoves s x × NoneStuck s x
EndsAs s left x Finished = EndsByState s x Finished
EndsAs s left x Deadlock = EndsByState s x Deadlock
EndsAs s left x (Stuck t) = EndsByState s x (Stuck t)
EndsAs s left x (BadTurn i) = ⊥

-- no given turn that is reached names a thread that isn't there
abbrev pub NoBadTurn : {Event Place S : Type 0} → System Event Place S → List Turn → ℕ → Type 0
NoBadTurn s turns budget = (index : ℕ) → IsBadTurn s turns budget index → ⊥

-- a run over given turns that stopped in x, after so many moves, ends so
abbrev pub GivenEndsAs : {Event Place S : Type 0} → System Event Place S → List Turn → ℕ → ℕ → S → Ending → Type 0
GivenEndsAs s turns budget moves x (BadTurn index) = IsBadTurn s turns budget index
GivenEndsAs s turns budget moves x end = EndsAs s (budget - moves) x end × NoBadTurn s turns budget
