use Rattle.std.proofs.Common.{◌≡◌, ◌-◌, map}
use Rattle.cf_read.specs.Reading.{many_at, row_at}
use Rattle.cf_read.specs.Views.{row_of}
use Rattle.cf_read.proofs.Loops.{with_front}
use Rattle.cf_read.proofs.code_attribute.read_rows.Given as goal

abbrev pub invariant-loop : goal.invariant-loop
invariant-loop l = with_front (map row_of l.rows.items) (many_at row_at (l.count - l.counter) l.rest) ≡ many_at row_at l.count l.bytes
