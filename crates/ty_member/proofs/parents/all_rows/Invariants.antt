use Rattle.std.proofs.Common.{◌≡◌, [], drop}
use Rattle.ty_member.specs.Checked.{each}
use Rattle.ty_member.specs.Parents.{with_row}
use Rattle.ty_member.proofs.parents.all_rows.Given as goal

abbrev pub invariant-loop-def : goal.invariant-loop-def
invariant-loop-def l = each (with_row l.known) (drop l.def-index l.defs) l.rows ≡ each (with_row l.known) l.defs []
