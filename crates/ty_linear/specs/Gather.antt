-- Classes that are gathered into a list, and the marks that tell which are there.
use Rattle.std.specs.Prelude.{◌≡◌, ℕ, ◌<◌, ◌≤◌, ◌==◌, List, [], ◌∷◌, ◌++◌, if◌then◌else◌, length, slice_index}
use Rattle.std.specs.List.{All}
use Rattle.ty_linear.specs.Linear.{is_in}

-- a list, and behind it each class of another that it lacks, once
abbrev pub gathered : List ℕ → List ℕ → List ℕ
gathered found [] = found
gathered found (class ∷ classes) = gathered (if is_in found class then found else found ++ class ∷ []) classes

-- no mark is above the stamp, and those that are the stamp are the marks of the classes in the list
pub record AreMarked (marks : List ℕ) (stamp : ℕ) (found : List ℕ) : Type 0 where
  pub each : (class : ℕ) → class < length marks → (slice_index marks class == stamp) ≡ is_in found class
  pub below : All (λ mark. mark ≤ stamp) marks
