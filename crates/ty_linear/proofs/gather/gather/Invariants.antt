use Rattle.std.proofs.Common.{◌≡◌, ◌≤◌, length, reverse, drop}
use Rattle.ty_linear.specs.Gather.{gathered, AreMarked}
use Rattle.ty_linear.proofs.gather.gather.Given as goal

abbrev pub invariant-loop-number : goal.invariant-loop-number
invariant-loop-number l = record {
  gathered : l.found.items ≡ gathered l.initial.found.items (reverse (drop l.number l.classes));
  marked : AreMarked l.marks l.stamp l.found.items;
  within : l.number ≤ length l.classes;
}
