-- Ancestors: through parents, and of each other.
use Rattle.std.proofs.Common.{◌≡◌, ◌⊎◌, inl, inr, ℕ, List, refl, sym, subst}
use Rattle.std.specs.List.{Contains}
use Rattle.ty_linear.specs.Linear.{parents_of, IsAncestor, parent, beyond}

-- an ancestor of an ancestor is one
pub ancestor_chain : (parents : List (List ℕ)) (a b c : ℕ) → IsAncestor parents a b → IsAncestor parents b c → IsAncestor parents a c
ancestor_chain parents a b c first (parent _ _ has) = beyond a b c has first
ancestor_chain parents a b c first (beyond _ middle _ has rest) = beyond a middle c has (ancestor_chain parents a b middle first rest)

-- the class, or an ancestor of it
abbrev pub IsAtOrAbove : List (List ℕ) → ℕ → ℕ → Type 0
IsAtOrAbove parents x class = (x ≡ class) ⊎ IsAncestor parents x class

-- what is at or above a parent is an ancestor
pub above_parent : (parents : List (List ℕ)) (x p class : ℕ) → Contains (parents_of parents class) p → IsAtOrAbove parents x p → IsAncestor parents x class
above_parent parents x p class has (inl e) = let P : ℕ → Type 0 = λ y. IsAncestor parents y class in subst P (sym e) (parent p class has)
above_parent parents x p class has (inr a) = beyond x p class has a

-- each ancestor is at or above a parent
pub by_parent : (parents : List (List ℕ)) (x class : ℕ) → IsAncestor parents x class
    → (p : ℕ) × Contains (parents_of parents class) p × IsAtOrAbove parents x p
by_parent parents x class (parent _ _ has) = (x, has, inl refl)
by_parent parents x class (beyond _ middle _ has rest) = (middle, has, inr rest)
