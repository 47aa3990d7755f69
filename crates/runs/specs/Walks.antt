-- Walks from threads to those that they wait for.
use Rattle.std.specs.Prelude.{◌≡◌, ℕ, zero, suc, ◌+◌, ◌<◌, ◌≤◌, ◌⊎◌, List, [], ◌∷◌, Option, None, Some, length, slice_index}
use Rattle.runs.specs.declared.walk.Circuit.{Circuit}
use Rattle.runs.specs.WaitTable.{awaited_by}

-- t leads to u by so many waits
abbrev pub Leads : List (Option ℕ) → ℕ → ℕ → ℕ → Type 0
Leads table zero t u = t ≡ u
Leads table (suc k) t u = (v : ℕ) × (awaited_by table t ≡ Some v) × Leads table k v u

-- t leads to itself
abbrev pub Returns : List (Option ℕ) → ℕ → Type 0
Returns table t = (k : ℕ) × Leads table (suc k) t t

-- how many are 0
abbrev pub zeros : List ℕ → ℕ
zeros [] = 0
zeros (zero ∷ marks) = suc (zeros marks)
zeros (suc mark ∷ marks) = zeros marks

-- the threads that were met are marked by their numbers in the order of meeting; others by 0. Who is awaited by one of
-- them, and is in the table, was met too
pub record Marked (table : List (Option ℕ)) (marks : List ℕ) (met : ℕ) : Type 0 where
  pub size : length marks ≡ length table + 1
  pub unmet : met + zeros marks ≡ length marks
  pub below : (t : ℕ) → slice_index marks t ≤ met
  pub closed : (t u : ℕ) → 0 < slice_index marks t → awaited_by table t ≡ Some u → u < length marks → 0 < slice_index marks u

-- so many waits, and no fewer than one, lead from the thread to itself
abbrev pub IsCircuit : List (Option ℕ) → Circuit → Type 0
IsCircuit table circuit = (0 < circuit.length) × Leads table circuit.length circuit.thread circuit.thread

-- each thread that was met now and leads to itself is on this circuit
abbrev pub IsCircuitOf : List (Option ℕ) → List ℕ → List ℕ → Option Circuit → Type 0
IsCircuitOf table before now None = (t : ℕ) → slice_index before t ≡ 0 → 0 < slice_index now t → Returns table t → ⊥
IsCircuitOf table before now (Some circuit) =
    IsCircuit table circuit
    × ((t : ℕ) → slice_index before t ≡ 0 → 0 < slice_index now t → Returns table t → (k : ℕ) × Leads table k circuit.thread t)

-- no thread leads to itself
abbrev pub NoneReturns : List (Option ℕ) → Type 0
NoneReturns table = (t : ℕ) → Returns table t → ⊥

-- no thread to which this one leads is less than u
abbrev pub IsLeastFrom : List (Option ℕ) → ℕ → ℕ → Type 0
IsLeastFrom table t u = (k v : ℕ) → Leads table k t v → u ≤ v

-- no thread that leads to itself is less than t
abbrev pub IsLeastOfAll : List (Option ℕ) → ℕ → Type 0
IsLeastOfAll table t = (u : ℕ) → Returns table u → t ≤ u

-- the lesser of two threads on circuits, or the one that there is
abbrev pub IsLesser : Option Circuit → Circuit → Circuit → Type 0
IsLesser None other result = result ≡ other
IsLesser (Some one) other result =
    ((result ≡ one) ⊎ (result ≡ other)) × (result.thread ≤ one.thread) × (result.thread ≤ other.thread)
