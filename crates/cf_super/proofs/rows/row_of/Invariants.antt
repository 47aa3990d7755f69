use Rattle.std.proofs.Common.{◌≡◌, ◌++◌, take}
use Rattle.std.specs.List.{flat_map}
use Rattle.cf_super.specs.Rows.{numbered_at}
use Rattle.cf_super.proofs.rows.row_of.Given as goal

abbrev pub invariant-loop-index : goal.invariant-loop-index
invariant-loop-index l =
    l.row.items ≡ numbered_at l.names l.file.pool l.file.parent ++ flat_map (numbered_at l.names l.file.pool) (take l.index-index l.file.interfaces)
