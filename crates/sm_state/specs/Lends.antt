-- What a list ends as, where an item of it was lent to be changed.
use Rattle.std.specs.Prelude.{ℕ, List, ◌∷◌, slice_set, drop}
use Rattle.std.specs.Borrow.{Lends, Fml, RattleType, MutBor}
use Rattle.sm_state.specs.contracts.sequence.Sequence as sequence
use Rattle.sm_state.specs.contracts.stack.Stack as stack

-- a list ends with the item that has this number set to the last value behind r
module _ (T : RattleType) (s : MutBor (List T.Denot)) (at : ℕ) where
  -- the list ends as it stands, with the item that has this number set to the last value behind r
  abbrev pub lends_item : MutBor T.Denot → Fml
  lends_item r = Lends (sequence.the_row T) T s r (slice_set s.now at)

-- a stack ends with its top set to the last value behind r
module _ (T : RattleType) (s : MutBor (List T.Denot)) where
  -- the stack ends as it stands, with its top set to the last value behind r
  abbrev pub lends_top : MutBor T.Denot → Fml
  lends_top r = Lends (stack.the_row T) T s r (λ w. w ∷ drop 1 s.now)
