-- What a class carries, beside what is merged from what its parents carry (SLS 5.1.2).
use Rattle.std.specs.Prelude.{◌≡◌, ℕ, ◌<◌, false, List, [], ◌∷◌, reverse, length, slice_get, slice_index_or, option_map}
use Rattle.std.specs.Option.{unwrap_or}
use Rattle.ty_prog.specs.declared.class.Class.{Class}
use Rattle.ty_linear.specs.Linear.{is_in, ◌+>◌}

-- the list that a class carries; of a number that is no class's the number alone
abbrev pub carried : List Class → ℕ → List ℕ
carried classes class = unwrap_or (option_map (λ c. c.linear) (slice_get classes class)) (class ∷ [])

-- `L(Cn) +> .. +> L(C1)` of the classes Cn to C1, of each what it carries
abbrev pub merged : List Class → List ℕ → List ℕ
merged classes [] = []
merged classes (class ∷ rest) = carried classes class +> merged classes rest

-- a class carries itself and what is merged from its parents, which lacks it
pub record IsCarried (classes : List Class) (number : ℕ) (class : Class) : Type 0 where
  pub is : class.linear ≡ number ∷ merged classes (reverse class.parents)
  pub lacks : is_in (merged classes (reverse class.parents)) number ≡ false

-- each class carries its list
abbrev pub AreCarried : List Class → Type 0
AreCarried classes = (number : ℕ) (d : Class) → number < length classes → IsCarried classes number (slice_index_or classes number d)
