-- Places in trees.
use Rattle.std.proofs.Common.{◌≡◌, ℕ, List, [], ◌∷◌, ◌++◌, Option, Some, None, refl}
use Rattle.std.specs.Prelude.{slice_get, option_and_then}
use Rattle.ty_prog.specs.Tree.{Tree, children}
use Rattle.ty_prog.specs.Node.{tree_at}

pub place_child : (tree : Tree) (place : List ℕ) (i : ℕ) → tree_at tree (place ++ i ∷ []) ≡ option_and_then (λ t. slice_get (children t) i) (tree_at tree place)
place_child tree [] i = last (slice_get (children tree) i) where
  last : (o : Option Tree) → option_and_then (λ child. tree_at child []) o ≡ o
  last None = refl
  last (Some t) = refl
place_child tree (j ∷ place) i = below (slice_get (children tree) j) (λ t. place_child t place i) where
  below : (o : Option Tree) → ((t : Tree) → tree_at t (place ++ i ∷ []) ≡ option_and_then (λ u. slice_get (children u) i) (tree_at t place))
      → option_and_then (λ child. tree_at child (place ++ i ∷ [])) o ≡ option_and_then (λ t. slice_get (children t) i) (option_and_then (λ child. tree_at child place) o)
  below None each = refl
  below (Some t) each = each t

pub place_joined : (tree : Tree) (first rest : List ℕ) → tree_at tree (first ++ rest) ≡ option_and_then (λ t. tree_at t rest) (tree_at tree first)
place_joined tree [] rest = refl
place_joined tree (i ∷ first) rest = below (slice_get (children tree) i) (λ t. place_joined t first rest) where
  below : (o : Option Tree) → ((t : Tree) → tree_at t (first ++ rest) ≡ option_and_then (λ u. tree_at u rest) (tree_at t first))
      → option_and_then (λ child. tree_at child (first ++ rest)) o ≡ option_and_then (λ t. tree_at t rest) (option_and_then (λ child. tree_at child first) o)
  below None each = refl
  below (Some t) each = each t
