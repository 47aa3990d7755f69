use Rattle.std.proofs.Common.{◌≡◌, None, map, take}
use Rattle.sl_io.specs.Held.{stored, file_in}
use Rattle.sl_io.proofs.mem_shelf.number_of.Given as goal

abbrev pub invariant-loop-i : goal.invariant-loop-i
invariant-loop-i l = file_in (take l.i (map stored l.files)) l.name ≡ None
