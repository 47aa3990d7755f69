use Rattle.std.proofs.Common.{◌≡◌, drop}
use Rattle.ty_member.specs.Checked.{each}
use Rattle.ty_member.specs.Parents.{with_parent}
use Rattle.ty_member.proofs.parents.with_traits.Given as goal

abbrev pub invariant-loop-name : goal.invariant-loop-name
invariant-loop-name l = each (with_parent l.known) (drop l.name-index l.traits) l.row ≡ each (with_parent l.known) l.traits l.fn.row
