use Rattle.std.proofs.Common.{◌≡◌, ◌++◌, map, take}
use Rattle.sm_state.specs.declared.once.Once.TheVariants as once
use Rattle.sm_state.proofs.layout.add_cells.Given as goal

abbrev pub invariant-loop-cell : goal.invariant-loop-cell
invariant-loop-cell l = l.made ≡ l.initial.made ++ map (λ cell. once.Empty) (take l.cell-index l.cells)
