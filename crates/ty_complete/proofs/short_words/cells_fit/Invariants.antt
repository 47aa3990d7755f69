use Rattle.std.proofs.Common.{◌≡◌, drop}
use Rattle.std.specs.List.{list_all}
use Rattle.ty_complete.specs.Complete.{has_short_words}
use Rattle.ty_complete.proofs.short_words.cells_fit.Given as goal

abbrev pub invariant-loop-cell : goal.invariant-loop-cell
invariant-loop-cell l =
    list_all (λ c. has_short_words c.name) (drop l.cell-index l.cells) ≡ list_all (λ c. has_short_words c.name) l.cells
