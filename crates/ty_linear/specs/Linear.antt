-- The linearisation of a class (SLS 5.1.2), over the parents of each class in the order in which they are written.
use Rattle.std.specs.Prelude.{◌≡◌, ℕ, ◌<◌, Bool, not, nat_eq, List, [], ◌∷◌, ◌++◌, reverse, map, length, slice_index_or, Vec}
use Rattle.std.specs.List.{list_any, filter, All, Contains}
use Rattle.std.specs.declared.alloc.Global.{Global}

-- the lists in the rows of a table
abbrev pub rows : List (Vec ℕ Global) → List (List ℕ)
rows table = map (λ row. row.items) table

-- each number in the rows is that of a row
abbrev pub AreClasses : List (Vec ℕ Global) → Type 0
AreClasses table = All (λ row. All (λ class. class < length table) row.items) table

-- the parents of a class, as they are written; none where there is no such class
abbrev pub parents_of : List (List ℕ) → ℕ → List ℕ
parents_of parents class = slice_index_or parents class []

-- whether a class stands in a list
abbrev pub is_in : List ℕ → ℕ → Bool
is_in classes class = list_any (nat_eq class) classes

infixr 65 ◌+>◌
-- `A +> B`: the elements of A that B lacks, and then B
abbrev pub ◌+>◌ : List ℕ → List ℕ → List ℕ
a +> b = filter (λ class. not (is_in b class)) a ++ b

-- `L(Cn) +> .. +> L(C1)` of the classes Cn to C1, where `L(C)` is C and then the same of C's parents, the last one first
pub data IsMerged (parents : List (List ℕ)) : List ℕ → List ℕ → Type 0 where
  none : IsMerged parents [] []
  more : (class : ℕ) (classes above merged : List ℕ) → IsMerged parents (reverse (parents_of parents class)) above
      → IsMerged parents classes merged → IsMerged parents (class ∷ classes) ((class ∷ above) +> merged)

-- the list is `L(C)`: C, and then `L(Cn) +> .. +> L(C1)` of its parents C1 to Cn
pub record IsLinearisation (parents : List (List ℕ)) (class : ℕ) (list : List ℕ) : Type 0 where
  pub above : List ℕ
  pub merged : IsMerged parents (reverse (parents_of parents class)) above
  pub is : list ≡ class ∷ above

-- there is one list for each class, its linearisation
pub record AreLinearisations (parents lists : List (List ℕ)) : Type 0 where
  pub count : length lists ≡ length parents
  pub each : (class : ℕ) → class < length parents → IsLinearisation parents class (slice_index_or lists class [])

-- the first class is a parent of the second, or of an ancestor of it
pub data IsAncestor (parents : List (List ℕ)) : ℕ → ℕ → Type 0 where
  parent : (ancestor class : ℕ) → Contains (parents_of parents class) ancestor → IsAncestor parents ancestor class
  beyond : (ancestor middle class : ℕ) → Contains (parents_of parents class) middle
      → IsAncestor parents ancestor middle → IsAncestor parents ancestor class

-- no class is its own ancestor
abbrev pub IsAcyclic : List (List ℕ) → Type 0
IsAcyclic parents = (class : ℕ) → ¬ (IsAncestor parents class class)

-- the least class that is its own ancestor
pub record IsLeastOnCycle (parents : List (List ℕ)) (class : ℕ) : Type 0 where
  pub cyclic : IsAncestor parents class class
  pub least : (smaller : ℕ) → smaller < class → ¬ (IsAncestor parents smaller smaller)
