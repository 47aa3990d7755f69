-- Which schedules a plan and a budget allow.
use Rattle.std.specs.Prelude.{◌≡◌, ℕ, zero, suc, ◌+◌, ◌-◌, ◌%◌, ◌<◌, ◌≤◌, min, List, [], ◌∷◌, ◌++◌, ◌⊎◌, Option, None, Some}
use Rattle.runs.specs.declared.turn.Turn.{Turn}
use Rattle.runs.specs.System.{Next, Goes, Waits, Ended, Stuck, System, Reached, tries, start, IsAbsent}

-- it can move
abbrev pub Moves : {S : Type 0} → Next S → Type 0
Moves (Goes after) = Unit {0}
Moves Waits = ⊥
Moves Ended = ⊥
Moves Stuck = ⊥

-- it stands at a stuck step
abbrev pub IsStuck : {S : Type 0} → Next S → Type 0
IsStuck (Goes after) = ⊥
IsStuck Waits = ⊥
IsStuck Ended = ⊥
IsStuck Stuck = Unit {0}

-- it waits or has ended
abbrev pub Rests : {S : Type 0} → Next S → Type 0
Rests (Goes after) = ⊥
Rests Waits = Unit {0}
Rests Ended = Unit {0}
Rests Stuck = ⊥

-- no thread can move
abbrev pub NoneMoves : {Event Place S : Type 0} → System Event Place S → S → Type 0
NoneMoves s x = (t : ℕ) → Moves (s.next x t) → ⊥

-- the budget is reached, or no thread can move
abbrev pub IsOver : {Event Place S : Type 0} → System Event Place S → ℕ → S → Type 0
IsOver s left x = (left ≡ 0) ⊎ NoneMoves s x

-- the d-th of n threads after thread t, in a circle
abbrev pub in_circle : ℕ → ℕ → ℕ → ℕ
in_circle n t d = (t + d - 1) % n + 1

-- u comes next after t in the circle of threads: those between rest, and u doesn't
abbrev pub ComesNext : {Event Place S : Type 0} → System Event Place S → S → ℕ → ℕ → Type 0
ComesNext s x t u =
    (d : ℕ)
    × (1 ≤ d)
    × (d ≤ s.threads x)
    × (u ≡ in_circle (s.threads x) t d)
    × ((e : ℕ) → 1 ≤ e → e < d → Rests (s.next x (in_circle (s.threads x) t e)))
    × (Rests (s.next x u) → ⊥)

-- the moves that a turn makes within the budget
abbrev pub cut : {Event Place S : Type 0} → System Event Place S → ℕ → Reached S → Turn → ℕ
cut s left r turn = min left ((tries s turn.thread turn.count r).moves turn.thread - r.moves turn.thread)

-- a turn that has made n moves isn't over, and its thread stands at a stuck step
abbrev pub IsHalted : {Event Place S : Type 0} → System Event Place S → Turn → ℕ → S → Type 0
IsHalted s turn n x = (n < turn.count) × IsStuck (s.next x turn.thread)

-- what a schedule keeps of a turn of n moves
abbrev pub kept : ℕ → ℕ → List Turn
kept t zero = []
kept t (suc n) = record { thread = t; count = suc n } ∷ []

-- how a run chooses its turns: round robin with a quantum, or turns that are given and then round robin with quantum 50
pub data Plan : Type 0 where
  RoundRobin : (quantum : ℕ) → Plan
  Given : (turns : List Turn) → Plan

-- what is left of a plan: the given turn with this index and those behind it, or a round robin whose last turn was of
-- the thread `last`, or that begins, where that is 0
pub data Ahead : Type 0 where
  GivenTurn : (index : ℕ) (turn : Turn) (more : List Turn) → Ahead
  Round : (quantum last : ℕ) → Ahead

-- given turns, the first of which has this index
abbrev pub given_from : ℕ → List Turn → Ahead
given_from index [] = Round 50 0
given_from index (turn ∷ more) = GivenTurn index turn more

-- what is ahead before any turn
abbrev pub at_first : Plan → Ahead
at_first (RoundRobin quantum) = Round quantum 0
at_first (Given turns) = given_from 0 turns

-- in the state x this turn is next, and this is left of the plan behind it
abbrev pub IsNext : {Event Place S : Type 0} → System Event Place S → S → Ahead → Turn → Ahead → Type 0
IsNext s x (GivenTurn index given more) turn rest = (turn ≡ given) × (rest ≡ given_from (suc index) more)
IsNext s x (Round quantum last) turn rest =
    ComesNext s x last turn.thread × (turn.count ≡ quantum) × (rest ≡ Round quantum turn.thread)

-- a turn is taken, and makes n moves within the budget: the run isn't over, and its thread is there
pub record IsTaken {Event Place S : Type 0} (s : System Event Place S) (left : ℕ) (r : Reached S) (turn : Turn) (n : ℕ) : Type 0 where
  pub going : IsOver s left r.state → ⊥
  pub there : IsAbsent s r.state turn.thread → ⊥
  pub moves : cut s left r turn ≡ n

-- from r, with so many moves left, what is left of a plan allows this schedule. It ends before a given turn whose thread
-- isn't there where that turn's index is told
pub data Allows {Event Place S : Type 0} (s : System Event Place S) : ℕ → Ahead → Reached S → List Turn → Option ℕ → Type 0 where
  -- the run is over
  Over : {left : ℕ} {ahead : Ahead} {r : Reached S} → IsOver s left r.state → Allows s left ahead r [] None
  -- the thread of the next given turn isn't there
  Absent : {left : ℕ} {r : Reached S} (index : ℕ) (turn : Turn) (more : List Turn) → (IsOver s left r.state → ⊥) →
      IsAbsent s r.state turn.thread → Allows s left (GivenTurn index turn more) r [] (Some index)
  -- the thread whose turn it is stands at a stuck step
  Halted : {left : ℕ} {ahead : Ahead} {r : Reached S} (turn : Turn) (rest : Ahead) (n : ℕ) → IsNext s r.state ahead turn rest →
      IsTaken s left r turn n → IsHalted s turn n (tries s turn.thread n r).state → Allows s left ahead r (kept turn.thread n) None
  -- a turn, and then
  Then : {left : ℕ} {ahead : Ahead} {r : Reached S} (turn : Turn) (rest : Ahead) (n : ℕ) (schedule : List Turn) (bad : Option ℕ) →
      IsNext s r.state ahead turn rest → IsTaken s left r turn n → (IsHalted s turn n (tries s turn.thread n r).state → ⊥) →
      Allows s (left - n) rest (tries s turn.thread n r) schedule bad → Allows s left ahead r (kept turn.thread n ++ schedule) bad

-- the plan and the budget allow this schedule, from the first state
abbrev pub Planned : {Event Place S : Type 0} → System Event Place S → Plan → ℕ → List Turn → Type 0
Planned s plan budget schedule = (bad : Option ℕ) × Allows s budget (at_first plan) (start s) schedule bad

-- the given turn with this index is reached, and its thread isn't there
abbrev pub IsBadTurn : {Event Place S : Type 0} → System Event Place S → List Turn → ℕ → ℕ → Type 0
IsBadTurn s turns budget index = (schedule : List Turn) × Allows s budget (at_first (Given turns)) (start s) schedule (Some index)

-- a round robin has a positive quantum
abbrev pub HasQuantum : Plan → Type 0
HasQuantum (RoundRobin quantum) = 1 ≤ quantum
HasQuantum (Given turns) = Unit {0}

-- the moves of all turns
abbrev pub total : List Turn → ℕ
total [] = 0
total (turn ∷ turns) = turn.count + total turns

-- every turn makes all its moves, of which there are some
abbrev pub AreWhole : {Event Place S : Type 0} → System Event Place S → Reached S → List Turn → Type 0
AreWhole s r [] = Unit {0}
AreWhole s r (turn ∷ turns) =
    let r' = tries s turn.thread turn.count r in
    (0 < turn.count) × (r'.moves turn.thread ≡ r.moves turn.thread + turn.count) × AreWhole s r' turns
