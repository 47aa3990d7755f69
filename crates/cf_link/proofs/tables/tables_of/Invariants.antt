use Rattle.std.proofs.Common.{◌≡◌, map}
use Rattle.cf_link.specs.Layout.{table, numbers}
use Rattle.cf_link.proofs.tables.tables_of.Given as goal

abbrev pub invariant-loop-class : goal.invariant-loop-class
invariant-loop-class l = l.tables ≡ map (table l.classes) (numbers l.class)
