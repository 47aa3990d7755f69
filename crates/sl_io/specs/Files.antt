-- Changes of files, which are the bytes that each name has.
use Rattle.std.specs.Prelude.{◌≡◌, ◌≢◌, ℕ, List, Option, Some}

-- the bytes of a name's file, if it has one
abbrev pub Files : Type 0
Files = List ℕ → Option (List ℕ)

-- each name has the file that it had
abbrev pub SameFiles : Files → Files → Type 0
SameFiles old new = (name : List ℕ) → new name ≡ old name

-- each name but one has the file that it had
abbrev pub SameButAt : Files → Files → List ℕ → Type 0
SameButAt old new name = (other : List ℕ) → other ≢ name → new other ≡ old other

-- the name has the bytes, and each other name has the file that it had
pub record Binds (old new : Files) (name bytes : List ℕ) : Type 0 where
  pub bound : new name ≡ Some bytes
  pub others : SameButAt old new name
