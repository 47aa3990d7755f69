use Rattle.std.proofs.Common.{map, take, fold}
use Rattle.ty_room.specs.Capped.{IsSize}
use Rattle.ty_room.specs.Sizing.{beside, nothing, expr_size}
use Rattle.ty_room.proofs.trees.all_cells.Given as goal

abbrev pub invariant-loop-cell : goal.invariant-loop-cell
invariant-loop-cell l = IsSize l.so_far (fold beside nothing (map (λ cell. expr_size l.ahead cell.init) (take l.cell-index l.cells)))
