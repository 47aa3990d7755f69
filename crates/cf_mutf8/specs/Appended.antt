-- For proofs only: what a writer that stopped leaves.
use Rattle.std.specs.Prelude.{◌≡◌, List, ◌++◌, ℕ}

-- something was appended
abbrev pub IsExtended : List ℕ → List ℕ → Type 0
IsExtended old new = (more : List ℕ) × (new ≡ old ++ more)
