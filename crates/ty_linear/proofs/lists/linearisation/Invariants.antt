use Rattle.std.proofs.Common.{◌≡◌, reverse, take}
use Rattle.ty_linear.specs.Gather.{AreMarked}
use Rattle.ty_linear.specs.Linear.{rows, parents_of, IsMerged}
use Rattle.ty_linear.proofs.lists.linearisation.Given as goal

abbrev pub invariant-loop-parent : goal.invariant-loop-parent
invariant-loop-parent l = record {
  items : parents_of (rows l.parents) l.class ≡ l.parent-items;
  merged : IsMerged (rows l.parents) (reverse (take l.parent-index l.parent-items)) (reverse l.merged.items);
  marked : AreMarked l.marks l.stamp l.merged.items;
}
