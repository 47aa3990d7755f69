use Rattle.std.proofs.Common.{◌≡◌, ◌++◌, map, take}
use Rattle.ty_linear.specs.Linear.{rows}
use Rattle.cf_super.specs.Rows.{row_of, built_in_rows}
use Rattle.cf_super.proofs.rows.rows_of.Given as goal

abbrev pub invariant-loop-file : goal.invariant-loop-file
invariant-loop-file l = rows l.table.items ≡ built_in_rows ++ map (row_of l.names) (take l.file-index l.files)
