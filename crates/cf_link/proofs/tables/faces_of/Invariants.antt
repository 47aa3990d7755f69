use Rattle.std.proofs.Common.{◌≡◌, map, take}
use Rattle.cf_link.specs.Layout.{face, interfaces_of}
use Rattle.cf_link.proofs.tables.faces_of.Given as goal

abbrev pub invariant-loop-of : goal.invariant-loop-of
invariant-loop-of l = l.faces ≡ map (face l.classes l.class) (take l.of-index (interfaces_of l.classes l.class))
