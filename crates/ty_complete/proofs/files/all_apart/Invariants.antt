use Rattle.std.proofs.Common.{◌≡◌, ℕ, ◌<◌, List, slice_index_or, length}
use Rattle.ty_complete.proofs.files.all_apart.Given as goal

abbrev pub invariant-loop-i : goal.invariant-loop-i
invariant-loop-i l = (k j : ℕ) (d : List ℕ) → k < l.i → k < j → j < length l.names
    → slice_index_or l.names k d ≡ slice_index_or l.names j d → ⊥
