use Rattle.std.proofs.Common.{◌≡◌, take}
use Rattle.ty_prog.proofs.copying.cells.Given as goal

abbrev pub invariant-loop-cell : goal.invariant-loop-cell
invariant-loop-cell l = l.made ≡ take l.cell-index l.cell-items
