use Rattle.std.proofs.Common.{◌≡◌, ◌++◌, map, take}
use Rattle.ty_member.specs.Naming.{prelude_sort}
use Rattle.ty_member.proofs.known.put_sorts.Given as goal

abbrev pub invariant-loop-class : goal.invariant-loop-class
invariant-loop-class l = l.sorts ≡ l.initial.sorts ++ map prelude_sort (take l.class-index l.classes)
