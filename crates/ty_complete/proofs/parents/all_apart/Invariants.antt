use Rattle.std.proofs.Common.{◌≡◌, ℕ, ◌<◌, slice_index_or, length}
use Rattle.ty_complete.proofs.parents.all_apart.Given as goal

abbrev pub invariant-loop-i : goal.invariant-loop-i
invariant-loop-i l = (k j : ℕ) (d : ℕ) → k < l.i → k < j → j < length l.numbers
    → slice_index_or l.numbers k d ≡ slice_index_or l.numbers j d → ⊥
