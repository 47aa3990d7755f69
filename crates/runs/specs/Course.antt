-- Where a run stands on the course of a plan, whatever run has come to its first state.
use Rattle.std.specs.Prelude.{◌≡◌, ℕ, ◌+◌, ◌-◌, ◌⊎◌, List, ◌++◌, Option, None, Some}
use Rattle.runs.specs.declared.turn.Turn.{Turn}
use Rattle.runs.specs.declared.given_turns.GivenEnd.{GivenEnd}
use Rattle.runs.specs.declared.given_turns.GivenEnd.TheVariants.{Used, Stopped, BadTurn}
use Rattle.runs.specs.System.{System, Reached, run}
use Rattle.runs.specs.Planned.{IsStuck, IsOver, Ahead, Round, Allows, given_from, total}

-- a run stops here with so many moves left: the budget is reached, no thread can move, or one is stuck
abbrev pub Stops : {Event Place S : Type 0} → System Event Place S → ℕ → S → Type 0
Stops s left x = IsOver s left x ⊎ ((t : ℕ) × IsStuck (s.next x t))

-- what is ahead at x allows these turns, and they lead to y
pub record Course {Event Place S : Type 0} (s : System Event Place S) (budget : ℕ) (ahead : Ahead) (x : S) (turns : List Turn) (bad : Option ℕ) (y : S) : Type 0 where
  pub allows : (r : Reached S) → r.state ≡ x → Allows s budget ahead r turns bad
  pub state : (r : Reached S) → r.state ≡ x → (run s turns r).state ≡ y
  pub stops : bad ≡ None → Stops s (budget - total turns) y

-- the same up to y, where `rest` is ahead, with so many moves left
pub record OnCourse {Event Place S : Type 0} (s : System Event Place S) (budget : ℕ) (ahead : Ahead) (x : S) (left : ℕ) (rest : Ahead) (turns : List Turn) (y : S) : Type 0 where
  pub spent : total turns + left ≡ budget
  pub state : (r : Reached S) → r.state ≡ x → (run s turns r).state ≡ y
  pub allows : (r : Reached S) → r.state ≡ x → (more : List Turn) (bad : Option ℕ) → Allows s left rest (run s turns r) more bad
      → Allows s budget ahead r (turns ++ more) bad

-- the given turns from x make these turns, lead to y and end so
abbrev pub GivenMade : {Event Place S : Type 0} → System Event Place S → ℕ → S → List Turn → List Turn → S → GivenEnd → Type 0
GivenMade s budget x given turns y (Used left) = OnCourse s budget (given_from 0 given) x left (Round 50 0) turns y
GivenMade s budget x given turns y Stopped = Course s budget (given_from 0 given) x turns None y
GivenMade s budget x given turns y (BadTurn index) = Course s budget (given_from 0 given) x turns (Some index) y
