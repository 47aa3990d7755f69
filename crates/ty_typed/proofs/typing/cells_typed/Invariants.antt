use Rattle.std.proofs.Common.{length}
use Rattle.std.specs.Prelude.{◌↔◌}
use Rattle.ty_typed.specs.Bodies.{AllBoth, CellTyped}
use Rattle.ty_typed.proofs.typing.cells_typed.Given as goal

abbrev pub invariant-loop-cell : goal.invariant-loop-cell
invariant-loop-cell l = AllBoth (CellTyped l.p l.class) l.cells l.rest ↔ AllBoth (CellTyped l.p l.class) l.fn.cells l.locals

abbrev pub decreases-loop-cell : goal.decreases-loop-cell
decreases-loop-cell l = length l.cells
