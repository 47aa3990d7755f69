use Rattle.std.proofs.Common.{◌≡◌, drop}
use Rattle.std.specs.List.{list_all}
use Rattle.ty_good.specs.Names.{class_named}
use Rattle.ty_good.proofs.names.classes_named.Given as goal

abbrev pub invariant-loop-class : goal.invariant-loop-class
invariant-loop-class l =
    list_all (class_named l.k) (drop l.class-index l.classes) ≡ list_all (class_named l.k) l.classes
