-- What turns make of a state, whatever run has come to it.
use Rattle.std.specs.Prelude.{◌≡◌, ℕ, ◌+◌, ◌<◌, ◌≤◌}
use Rattle.runs.specs.declared.turn.Turn.{Turn}
use Rattle.runs.specs.System.{System, Reached, tries}
use Rattle.runs.specs.Planned.{Moves, cut}

-- of at most `count` tries of t from x, the first n are moves and lead to y, and t then can't move or has made all
pub record Made {Event Place S : Type 0} (s : System Event Place S) (t count : ℕ) (x : S) (n : ℕ) (y : S) : Type 0 where
  pub within : n ≤ count
  pub whole : (r : Reached S) → r.state ≡ x → (tries s t n r).moves t ≡ r.moves t + n
  pub state : (r : Reached S) → r.state ≡ x → (tries s t n r).state ≡ y
  pub stops : n < count → Moves (s.next y t) → ⊥

-- For proofs only.

-- a turn makes n moves within the budget, from x to y
pub record IsCut {Event Place S : Type 0} (s : System Event Place S) (left : ℕ) (x : S) (turn : Turn) (n : ℕ) (y : S) : Type 0 where
  pub within : n ≤ left
  pub count : (r : Reached S) → r.state ≡ x → cut s left r turn ≡ n
  pub state : (r : Reached S) → r.state ≡ x → (tries s turn.thread n r).state ≡ y
