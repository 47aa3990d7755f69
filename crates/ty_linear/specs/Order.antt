-- Orders in which each class stands behind its parents.
use Rattle.std.specs.Prelude.{◌≡◌, ◌==◌, nat_eq, false, ℕ, ◌<◌, IsTrue, List, length, take, slice_index}
use Rattle.std.specs.List.{count_by, All, Contains, IsDistinct}
use Rattle.ty_linear.specs.Linear.{parents_of, is_in}

-- each class in the list stands behind its parents
pub record IsOrder (parents : List (List ℕ)) (order : List ℕ) : Type 0 where
  pub within : All (λ class. class < length parents) order
  pub behind : (number : ℕ) → number < length order
      → All (λ class. IsTrue (is_in (take number order) class)) (parents_of parents (slice_index order number))

-- how often a class stands in a list
abbrev pub count_of : List ℕ → ℕ → ℕ
count_of classes class = count_by (nat_eq class) classes

-- the classes in the list are those that wait for no parent, each once
pub record IsReady (waiting ready : List ℕ) : Type 0 where
  pub within : All (λ class. class < length waiting) ready
  pub distinct : IsDistinct nat_eq ready
  pub each : (class : ℕ) → class < length waiting → is_in ready class ≡ (slice_index waiting class == 0)

-- a class that is left out has a parent that is left out
abbrev pub AreLeft : List (List ℕ) → List ℕ → Type 0
AreLeft parents order = (class : ℕ) → class < length parents → is_in order class ≡ false
    → (left : ℕ) × Contains (parents_of parents class) left × (is_in order left ≡ false)
