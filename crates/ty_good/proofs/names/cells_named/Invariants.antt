use Rattle.std.proofs.Common.{◌≡◌, drop}
use Rattle.std.specs.Prelude.{nat_le}
use Rattle.std.specs.List.{list_all}
use Rattle.ty_complete.specs.Words.{words}
use Rattle.ty_good.specs.Names.{cell_name_made_by}
use Rattle.ty_good.proofs.names.cells_named.Given as goal

abbrev pub invariant-loop-cell : goal.invariant-loop-cell
invariant-loop-cell l =
    list_all (λ c. nat_le (cell_name_made_by (words c.name)) l.k) (drop l.cell-index l.cells)
    ≡ list_all (λ c. nat_le (cell_name_made_by (words c.name)) l.k) l.cells
