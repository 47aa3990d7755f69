use Rattle.std.proofs.Common.{◌≡◌, drop}
use Rattle.cf_form.specs.Opcodes.{shape_among}
use Rattle.cf_form.proofs.lookup.searched.Given as goal

abbrev pub invariant-loop-row : goal.invariant-loop-row
invariant-loop-row l = shape_among (drop l.row-index l.rows) l.op ≡ shape_among l.rows l.op
