use Rattle.std.proofs.Common.{◌≡◌, drop}
use Rattle.std.specs.List.{position_from}
use Rattle.cf_refs.specs.Main.{is_start}
use Rattle.cf_refs.proofs.starting.start_in.Given as goal

abbrev pub invariant-loop-i : goal.invariant-loop-i
invariant-loop-i l =
    position_from (is_start l.name l.descriptor) l.i (drop l.i l.methods) ≡ position_from (is_start l.name l.descriptor) 0 l.methods
