-- What it says that a lower system refines an upper one.
use Rattle.std.specs.Prelude.{◌≡◌, ◌≢◌, ℕ, ◌+◌, ◌*◌, ◌^◌, ◌≤◌, List, ◌⊎◌, ◌↔◌}
use Rattle.runs.specs.declared.turn.Turn.{Turn}
use Rattle.runs.specs.System.{Ended, Stuck, System, Reached, reach}
use Rattle.runs.specs.Waiting.{HasEnded, DoesWait, For, IsFreed, AllWait, Cycle}

-- the steps of the lower run keep pace with the moves of the upper one
pub record Pace {S T : Type 0} (b : ℕ) (low : Reached S) (up : Reached T) : Type 0 where
  pub steps : (t : ℕ) → low.moves t ≤ b * (1 + up.moves t + up.inits)
  pub moves : (t : ℕ) → up.moves t ≤ b * (1 + low.moves t)

-- the states agree: in what was shown, in their threads, in who waits, and in who waits for whom where all wait
pub record Agree {Event Place S T : Type 0} (lower : System Event Place S) (upper : System Event Place T) (x : S)
    (y : T) : Type 0 where
  pub trace : lower.trace x ≡ upper.trace y
  pub threads : lower.threads x ≡ upper.threads y
  pub ended : (t : ℕ) → HasEnded lower x t ↔ HasEnded upper y t
  pub waits : (t : ℕ) → DoesWait lower x t → DoesWait upper y t ⊎ IsFreed lower x t
  pub freed : (t : ℕ) → DoesWait lower x t → IsFreed upper y t → IsFreed lower x t
  pub cycles : AllWait lower x → (t u : ℕ) (place : Place) → For lower x t u place ↔ For upper y t u place
  pub never_stuck : (t : ℕ) → lower.next x t ≢ Stuck

-- what each lower run owes to the upper run that it follows
pub record Follows {Event Place S T : Type 0} (lower : System Event Place S) (upper : System Event Place T) (b : ℕ)
    (low : Reached S) (up : Reached T) : Type 0 where
  pub states : Agree lower upper low.state up.state
  pub pace : Pace b low up
  pub inits : low.inits ≤ up.inits

-- each run of the lower system follows a run of the upper one
pub record Refines {Event Place S T : Type 0} (lower : System Event Place S) (upper : System Event Place T)
    (b : ℕ) : Type 0 where
  pub run : (turns : List Turn) → (above : List Turn) × Follows lower upper b (reach lower turns) (reach upper above)

-- it follows it, and where every unfinished thread below waits and there is one, all unfinished threads above wait,
-- and some of them in a cycle
pub record Implemented {Event Place S T : Type 0} (lower : System Event Place S) (upper : System Event Place T) (b : ℕ)
    (low : Reached S) (up : Reached T) : Type 0 where
  pub follows : Follows lower upper b low up
  pub all_wait : AllWait lower low.state → AllWait upper up.state
  pub cycle : AllWait lower low.state → (t : ℕ) → lower.next low.state t ≢ Ended → (ts : List ℕ)
      × Cycle upper up.state ts

-- each lower run does so to some upper run, with a bound that no pass comes near
pub record Implements {Event Place S T : Type 0} (lower : System Event Place S)
    (upper : System Event Place T) : Type 0 where
  pub run : (turns : List Turn) → (above : List Turn) × Implemented lower upper (2 ^ 56) (reach lower turns)
      (reach upper above)
