-- Ends and waits: which threads have ended, which wait and for whom, who frees them, and cycles of waiting threads.
use Rattle.std.specs.Prelude.{◌≡◌, ◌≢◌, ℕ, ◌<◌, ◌≤◌, nat_eq, List, [], ◌∷◌, true, false}
use Rattle.std.specs.List.{IsDistinct, All}
use Rattle.runs.specs.declared.turn.Turn.{Turn}
use Rattle.runs.specs.System.{Waits, Ended, System, reach}

-- t has ended, or isn't there
abbrev pub HasEnded : {Event Place S : Type 0} → System Event Place S → S → ℕ → Type 0
HasEnded s x t = s.next x t ≡ Ended

-- t hasn't ended and has no next step
abbrev pub DoesWait : {Event Place S : Type 0} → System Event Place S → S → ℕ → Type 0
DoesWait s x t = s.next x t ≡ Waits

-- t waits at this place for u, which is the least thread that blocks it
abbrev pub For : {Event Place S : Type 0} → System Event Place S → S → ℕ → ℕ → Place → Type 0
For s x t u place =
    (s.next x t ≡ Waits) × (s.place x t ≡ place) × (s.blocks x t u ≡ true) × ((v : ℕ) → v < u → s.blocks x t v ≡ false)

-- u neither waits nor has ended, and is about to open the latch that t awaits
abbrev pub Frees : {Event Place S : Type 0} → System Event Place S → S → ℕ → ℕ → Type 0
Frees s x u t = (s.next x u ≢ Waits) × (s.next x u ≢ Ended) × (s.opens x u t ≡ true)

-- some thread frees t
abbrev pub IsFreed : {Event Place S : Type 0} → System Event Place S → S → ℕ → Type 0
IsFreed s x t = (u : ℕ) × Frees s x u t

-- every thread that hasn't ended waits
abbrev pub AllWait : {Event Place S : Type 0} → System Event Place S → S → Type 0
AllWait s x = (t : ℕ) → s.next x t ≢ Ended → s.next x t ≡ Waits

-- t waits for u, at some place
abbrev pub WaitsFor : {Event Place S : Type 0} → System Event Place S → S → ℕ → ℕ → Type 0
WaitsFor {Place = Place} s x t u = (place : Place) × For s x t u place

-- R leads from t through these numbers to the end
abbrev pub Chain : (ℕ → ℕ → Type 0) → ℕ → List ℕ → ℕ → Type 0
Chain R t [] end = R t end
Chain R t (u ∷ us) end = R t u × Chain R u us end

-- one or more distinct numbers, each of which R leads to the next, and the last to the first
abbrev pub IsCycle : (ℕ → ℕ → Type 0) → List ℕ → Type 0
IsCycle R [] = ⊥
IsCycle R (t ∷ ts) = IsDistinct nat_eq (t ∷ ts) × Chain R t ts t

-- the cycle of R that holds the least number of any cycle, and begins with it
abbrev pub IsLeastCycle : (ℕ → ℕ → Type 0) → List ℕ → Type 0
IsLeastCycle R [] = ⊥
IsLeastCycle R (t ∷ ts) = IsCycle R (t ∷ ts) × ((us : List ℕ) → IsCycle R us → All (λ u. t ≤ u) us)

-- threads, each of which waits for the next, and the last for the first; where none waits for itself, two or more
abbrev pub Cycle : {Event Place S : Type 0} → System Event Place S → S → List ℕ → Type 0
Cycle s x ts = IsCycle (WaitsFor s x) ts

-- the cycle that is reported: it holds the least thread of any cycle, and begins with it
abbrev pub LeastCycle : {Event Place S : Type 0} → System Event Place S → S → List ℕ → Type 0
LeastCycle s x ts = IsLeastCycle (WaitsFor s x) ts

-- where every unfinished thread waits and there is one, some wait in a cycle
abbrev pub CyclesWhereAllWait : {Event Place S : Type 0} → System Event Place S → S → Type 0
CyclesWhereAllWait s x = AllWait s x → (t : ℕ) → s.next x t ≢ Ended → (ts : List ℕ) × Cycle s x ts

-- that holds in every state that a run comes to
abbrev pub HasCycles : {Event Place S : Type 0} → System Event Place S → Type 0
HasCycles s = (turns : List Turn) → CyclesWhereAllWait s (reach s turns).state

-- where every unfinished thread waits, each waits for an unfinished one
abbrev pub WaitsForUnfinished : {Event Place S : Type 0} → System Event Place S → S → Type 0
WaitsForUnfinished s x = AllWait s x → (t : ℕ) → s.next x t ≢ Ended → (u : ℕ) × WaitsFor s x t u × (s.next x u ≢ Ended)
