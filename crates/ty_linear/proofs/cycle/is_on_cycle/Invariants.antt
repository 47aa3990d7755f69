use Rattle.std.proofs.Common.{◌-◌, length}
use Rattle.ty_linear.specs.Gather.{AreMarked}
use Rattle.ty_linear.specs.Linear.{rows}
use Rattle.ty_linear.proofs.Search.{IsSearched}
use Rattle.ty_linear.proofs.cycle.is_on_cycle.Given as goal

abbrev pub invariant-loop-number : goal.invariant-loop-number
invariant-loop-number l = record {
  searched : IsSearched (rows l.parents) l.class l.found.items l.number;
  marked : AreMarked l.marks l.stamp l.found.items;
}

abbrev pub decreases-loop-number : goal.decreases-loop-number
decreases-loop-number l = length l.parents - l.number
