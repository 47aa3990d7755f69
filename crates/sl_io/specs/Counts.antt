-- Counts of faults, which stand still at 2^64 - 1.
use Rattle.std.specs.Prelude.{◌≡◌, ℕ, ◌+◌, ◌-◌, ◌^◌, ◌≤◌, min, List, Bool, if◌then◌else◌}

-- a count after one more fault
abbrev pub raised : ℕ → ℕ
raised count = min (count + 1) (2 ^ 64 - 1)

-- a count after a call, which may have failed
abbrev pub raised_if : Bool → ℕ → ℕ
raised_if failed count = if failed then raised count else count

-- the count has risen; one that stands at its end is taken as having risen
abbrev pub Rose : ℕ → ℕ → Type 0
Rose before now = raised before ≤ now

-- no name's count falls
abbrev pub NeverFalls : (List ℕ → ℕ) → (List ℕ → ℕ) → Type 0
NeverFalls before now = (name : List ℕ) → before name ≤ now name

-- no name's count changed
abbrev pub SameCounts : (List ℕ → ℕ) → (List ℕ → ℕ) → Type 0
SameCounts before now = (name : List ℕ) → now name ≡ before name
