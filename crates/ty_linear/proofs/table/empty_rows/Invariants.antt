use Rattle.std.proofs.Common.{◌≡◌, [], length, replicate}
use Rattle.ty_linear.specs.Linear.{rows}
use Rattle.ty_linear.proofs.table.empty_rows.Given as goal

abbrev pub invariant-loop : goal.invariant-loop
invariant-loop l = record { rows : rows l.table.items ≡ replicate l.counter []; count : length l.table.items ≡ l.counter }
