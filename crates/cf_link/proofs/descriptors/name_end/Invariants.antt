use Rattle.std.proofs.Common.{◌≡◌, drop, true}
use Rattle.cf_link.specs.Parsing.{name_end}
use Rattle.cf_link.proofs.descriptors.name_end.Given as goal

abbrev pub invariant-loop-i : goal.invariant-loop-i
invariant-loop-i l = name_end l.empty (drop l.i l.bytes) ≡ name_end true l.bytes
