use Rattle.ty_linear.proofs.Counts.{IsReadyTo}
use Rattle.ty_linear.proofs.order.orphans.Given as goal

abbrev pub invariant-loop-class : goal.invariant-loop-class
invariant-loop-class l = IsReadyTo l.waiting l.ready.items l.class
