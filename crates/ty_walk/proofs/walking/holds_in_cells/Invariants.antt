use Rattle.std.proofs.Common.{IsTrue, take}
use Rattle.std.specs.List.{All}
use Rattle.ty_walk.specs.Parts.{KeptInCell}
use Rattle.ty_walk.proofs.walking.holds_in_cells.Given as goal

abbrev pub invariant-loop-cell : goal.invariant-loop-cell
invariant-loop-cell g l = All (KeptInCell (λ node. IsTrue (g.R.Rule.holds l.rule node))) (take l.cell-index l.cells)
