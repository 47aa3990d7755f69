use Rattle.std.proofs.Common.{◌≡◌, ◌++◌, map, take}
use Rattle.cf_link.specs.Classes.{methods_of}
use Rattle.cf_link.specs.Selection.{chosen}
use Rattle.cf_link.proofs.tables.put_chosen.Given as goal

abbrev pub invariant-loop-method : goal.invariant-loop-method
invariant-loop-method l =
    l.slots ≡ l.initial.slots ++ map (chosen l.classes l.class) (take l.method-index (methods_of l.classes l.of))
