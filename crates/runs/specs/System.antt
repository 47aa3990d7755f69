-- Systems of threads, and their runs over lists of turns.
use Rattle.std.specs.Prelude.{◌≡◌, ℕ, zero, suc, ◌+◌, ◌<◌, ◌⊎◌, List, [], ◌∷◌, nat_eq, if◌then◌else◌, Bool}
use Rattle.runs.specs.declared.turn.Turn.{Turn}

-- what a thread does next
pub data Next (S : Type 0) : Type 0 where
  Goes : (after : S) → Next S
  Waits : Next S
  Ended : Next S
  Stuck : Next S

-- a system of threads whose states are S
pub record System (Event Place S : Type 0) : Type 0 where
  pub first : S
  pub next : S → ℕ → Next S
  -- how many initialisers of cells the next move of this thread enters or ends
  pub inits : S → ℕ → ℕ
  pub threads : S → ℕ
  pub trace : S → List Event
  -- where this thread waits
  pub place : S → ℕ → Place
  -- `blocks x t u`: whether u runs the initialiser that t waits for
  pub blocks : S → ℕ → ℕ → Bool
  -- `opens x u t`: whether u is about to open the latch that t awaits
  pub opens : S → ℕ → ℕ → Bool

-- this number is no thread's
abbrev pub IsAbsent : {Event Place S : Type 0} → System Event Place S → S → ℕ → Type 0
IsAbsent s x t = (t ≡ 0) ⊎ (s.threads x < t)

-- a thread that isn't there has ended
abbrev pub AbsentHaveEnded : {Event Place S : Type 0} → System Event Place S → S → Type 0
AbsentHaveEnded s x = (t : ℕ) → IsAbsent s x t → s.next x t ≡ Ended

-- f with x at t
abbrev pub put : {X : Type 0} → ℕ → X → (ℕ → X) → ℕ → X
put t x f u = if nat_eq u t then x else f u

-- the state that a run has come to, the moves that each thread has made, and the initialisers entered and ended
pub record Reached (S : Type 0) : Type 0 where
  pub state : S
  pub moves : ℕ → ℕ
  pub inits : ℕ

-- one more move of t
abbrev pub one_more : ℕ → (ℕ → ℕ) → ℕ → ℕ
one_more t moves = put t (suc (moves t)) moves

-- what a try of t leaves, by what t does next
abbrev pub moved : {S : Type 0} → Reached S → ℕ → ℕ → Next S → Reached S
moved r t inits (Goes after) = record { state = after; moves = one_more t r.moves; inits = r.inits + inits }
moved r t inits Waits = r
moved r t inits Ended = r
moved r t inits Stuck = r

-- a try of t: its next move, or nothing where it can't move
abbrev pub tried : {Event Place S : Type 0} → System Event Place S → ℕ → Reached S → Reached S
tried s t r = moved r t (s.inits r.state t) (s.next r.state t)

-- n tries of t
abbrev pub tries : {Event Place S : Type 0} → System Event Place S → ℕ → ℕ → Reached S → Reached S
tries s t zero r = r
tries s t (suc n) r = tries s t n (tried s t r)

-- the turns, one after another
abbrev pub run : {Event Place S : Type 0} → System Event Place S → List Turn → Reached S → Reached S
run s [] r = r
run s (turn ∷ turns) r = run s turns (tries s turn.thread turn.count r)

-- before any turn
abbrev pub start : {Event Place S : Type 0} → System Event Place S → Reached S
start s = record { state = s.first; moves = λ t. 0; inits = 0 }

-- what the turns lead to, from the first state
abbrev pub reach : {Event Place S : Type 0} → System Event Place S → List Turn → Reached S
reach s turns = run s turns (start s)

-- some run comes to this state
abbrev pub IsReached : {Event Place S : Type 0} → System Event Place S → S → Type 0
IsReached s x = (turns : List Turn) × ((reach s turns).state ≡ x)

-- For proofs only.

-- P holds of the state that comes next, if one does
abbrev pub KeptBy : {S : Type 0} → (S → Type 0) → Next S → Type 0
KeptBy P (Goes after) = P after
KeptBy P Waits = Unit {0}
KeptBy P Ended = Unit {0}
KeptBy P Stuck = Unit {0}
