use Rattle.std.proofs.Common.{◌≡◌, drop}
use Rattle.std.specs.List.{position_from}
use Rattle.ty_good.specs.Selection.{is_same_member}
use Rattle.ty_good.proofs.selection.member_in.Given as goal

abbrev pub invariant-loop-i : goal.invariant-loop-i
invariant-loop-i l = position_from (is_same_member l.wanted) l.i (drop l.i l.methods) ≡ position_from (is_same_member l.wanted) 0 l.methods
