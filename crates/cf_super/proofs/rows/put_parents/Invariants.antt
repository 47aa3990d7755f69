use Rattle.std.proofs.Common.{◌≡◌, [], ◌∷◌, ◌++◌, map, take}
use Rattle.ty_linear.specs.Linear.{rows}
use Rattle.cf_super.proofs.rows.put_parents.Given as goal

abbrev pub invariant-loop-parent : goal.invariant-loop-parent
invariant-loop-parent l = rows l.table.items ≡ rows l.initial.table.items ++ map (λ parent. parent ∷ []) (take l.parent-index l.parents)
