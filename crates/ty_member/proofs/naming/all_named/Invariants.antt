use Rattle.std.proofs.Common.{◌≡◌, drop}
use Rattle.ty_member.specs.Checked.{each}
use Rattle.ty_member.specs.Naming.{template}
use Rattle.ty_member.proofs.naming.all_named.Given as goal

abbrev pub invariant-loop-def : goal.invariant-loop-def
invariant-loop-def l = each template (drop l.def-index l.defs) l.known ≡ each template l.defs l.fn.known
