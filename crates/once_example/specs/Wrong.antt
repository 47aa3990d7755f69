-- Three wrong lowerings, which refine the atomic cell with no bound.
use Rattle.std.specs.Prelude.{ℕ, zero, suc}
use Rattle.runs.specs.System.{Next, System}
use Rattle.once_example.specs.Lower.{Field, Evaluating, Position, Look, Store, Tell, State, step, lower, stored, goes, writes}

-- the result is stored without the exchange, and no latch is opened
abbrev pub no_exchange : (ℕ → ℕ) → State → ℕ → Position → Field → Next State
no_exchange ends s t (Store n said) field = writes s t (stored said) (Tell n said)
no_exchange ends s t position field = step ends s t position field

-- an initialiser that failed leaves Evaluating in the field
abbrev pub stays_evaluating : (ℕ → ℕ) → State → ℕ → Position → Field → Next State
stays_evaluating ends s t (Store n zero) Evaluating = goes s t (Tell n 0)
stays_evaluating ends s t position field = step ends s t position field

-- the lower system with other steps
abbrev pub with_step : ((ℕ → ℕ) → State → ℕ → Position → Field → Next State) → (ℕ → ℕ) → ℕ → ℕ → System (ℕ × ℕ) (Unit {0}) State
with_step moves ends n reads = record (lower ends n reads) { next = λ s t. moves ends s t (s.positions t) s.field }

-- a reader that finds Evaluating looks again, and does not sleep
abbrev pub spins : (ℕ → ℕ) → State → ℕ → Position → Field → Next State
spins ends s t (Look (suc n)) Evaluating = goes s t (Look (suc n))
spins ends s t position field = step ends s t position field
