-- Who waits for whom, as a table whose entry t - 1 tells whom thread t waits for, if any.
use Rattle.std.specs.Prelude.{◌≡◌, ℕ, zero, suc, List, [], ◌∷◌, Option, None, Some, slice_get, ◌↔◌}
use Rattle.runs.specs.System.{System}
use Rattle.runs.specs.Waiting.{WaitsFor, IsCycle, IsLeastCycle}

-- what an entry tells
abbrev pub told : Option (Option ℕ) → Option ℕ
told None = None
told (Some entry) = entry

-- whom t waits for
abbrev pub awaited_by : List (Option ℕ) → ℕ → Option ℕ
awaited_by table zero = None
awaited_by table (suc i) = told (slice_get table i)

-- t waits for u
abbrev pub IsAwaited : List (Option ℕ) → ℕ → ℕ → Type 0
IsAwaited table t u = awaited_by table t ≡ Some u

-- the table tells who waits for whom in the state x
abbrev pub Tells : {Event Place S : Type 0} → System Event Place S → S → List (Option ℕ) → Type 0
Tells s x table = (t u : ℕ) → WaitsFor s x t u ↔ IsAwaited table t u

-- no threads wait in a cycle
abbrev pub NoCycle : List (Option ℕ) → Type 0
NoCycle table = (ts : List ℕ) → IsCycle (IsAwaited table) ts → ⊥

-- the cycle that is reported: it holds the least thread of any cycle, and begins with it
abbrev pub IsReported : List (Option ℕ) → List ℕ → Type 0
IsReported table ts = IsLeastCycle (IsAwaited table) ts

-- For proofs only.

-- the cycle from this thread on
abbrev pub IsCycleFrom : List (Option ℕ) → ℕ → List ℕ → Type 0
IsCycleFrom table t [] = ⊥
IsCycleFrom table t (u ∷ us) = (u ≡ t) × IsCycle (IsAwaited table) (u ∷ us)
