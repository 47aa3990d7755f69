use Rattle.std.proofs.Common.{◌≡◌, drop}
use Rattle.std.specs.List.{list_all}
use Rattle.ty_complete.specs.Complete.{types_declared}
use Rattle.ty_complete.proofs.declared_types.all_types_declared.Given as goal

abbrev pub invariant-loop-class : goal.invariant-loop-class
invariant-loop-class l =
    list_all types_declared (drop l.class-index l.classes) ≡ list_all types_declared l.classes
