use Rattle.ty_room.specs.Sizing.{beside, nothing, expr_size}
use Rattle.ty_room.proofs.Folds.{fold_next}
use Rattle.ty_room.proofs.trees.all_cells.Goals as goal

pub loop-cell-preserved : goal.loop-cell-preserved
loop-cell-preserved c =
    rw (fold_next beside nothing (λ cell. expr_size c.args.ahead cell.init) c.args.cells.now c.loop-cell.cell-index c.cell-item.result c.loop-cell-test.true c.cell-item.is)
    (c.beside-so_far.ensures _ _ c.loop-cell.invariant c.expr_size.ensures)
