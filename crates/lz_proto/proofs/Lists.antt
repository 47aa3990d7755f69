-- What holds of each item of a list of which one item changes.
use Rattle.std.proofs.Common.{◌≢◌, ℕ, ◌<◌, List, length, get_or, slice_set, sym, subst}
use Rattle.std.proofs.lemmas.List.{get_or-set_same, get_or-set_other}
use Rattle.runs.proofs.Putting.{everywhere}

pub each_item : {A : Type 0} (P : ℕ → A → Type 0) (xs : List A) (i : ℕ) (x d : A) → i < length xs → P i x → ((j : ℕ) → j ≢ i → P j (get_or xs j d)) → (j : ℕ) → P j (get_or (slice_set xs i x) j d)
each_item P xs i x d within at others =
    everywhere (λ j. P j (get_or (slice_set xs i x) j d)) i
    (subst (P i) (sym (get_or-set_same xs i x d within)) at)
    (λ j ne. subst (P j) (sym (get_or-set_other xs i j x d ne)) (others j ne))
