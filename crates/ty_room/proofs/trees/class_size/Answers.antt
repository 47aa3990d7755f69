use Rattle.std.proofs.Common.{map}
use Rattle.ty_room.specs.Capped.{IsSize}
use Rattle.ty_room.specs.Sizing.{together, all_exprs, expr_size}
use Rattle.ty_room.specs.Room.{body_size}
use Rattle.ty_room.proofs.trees.class_size.Goals as goal

pub returns : goal.returns
returns c =
    let args : IsSize c.all_exprs.result (all_exprs c.args.ahead c.args.class.now.super_args) = rw c.as_slice.ensures at c.all_exprs.ensures in
    let statements : IsSize c.all_exprs-2.result (all_exprs c.args.ahead c.args.class.now.body) = rw c.as_slice-2.ensures at c.all_exprs-2.ensures in
    let cells : IsSize c.all_cells.result (together (map (λ cell. expr_size c.args.ahead cell.init) c.args.class.now.cells)) = rw c.as_slice-3.ensures at c.all_cells.ensures in
    let methods : IsSize c.all_methods.result (together (map (λ method. body_size c.args.ahead method.body) c.args.class.now.methods)) = rw c.as_slice-4.ensures at c.all_methods.ensures in
    c.merged-3.ensures _ _ (c.merged.ensures _ _ args statements) (c.merged-2.ensures _ _ cells methods)
