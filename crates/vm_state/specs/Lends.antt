-- What a list ends as, where a `&mut` to one of its items is returned.
use Rattle.std.specs.Prelude.{ℕ, List, ◌∷◌, slice_set, drop}
use Rattle.std.specs.Borrow.{Lends, Fml, RattleType, MutBor}
use Rattle.vm_state.specs.contracts.seq.Seq as seq
use Rattle.vm_state.specs.contracts.stack.Stack as stack

module _ (T : RattleType) (s : MutBor (List T.Denot)) (at : ℕ) where
  -- the list of s ends with item `at` set to the last value behind r
  abbrev pub lends_item : MutBor T.Denot → Fml
  lends_item r = Lends (seq.the_row T) T s r (slice_set s.now at)

module _ (T : RattleType) (s : MutBor (List T.Denot)) where
  -- the stack of s ends with its top set to the last value behind r
  abbrev pub lends_top : MutBor T.Denot → Fml
  lends_top r = Lends (stack.the_row T) T s r (λ w. w ∷ drop 1 s.now)

module _ (T : RattleType) (s : MutBor (List T.Denot)) where
  -- the stack of s ends with the item under its top set to the last value behind r
  abbrev pub lends_under : MutBor T.Denot → Fml
  lends_under r = Lends (stack.the_row T) T s r (slice_set s.now 1)
