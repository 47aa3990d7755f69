use Rattle.std.proofs.Common.{◌≡◌, ◌++◌, List, ℕ, take}
use Rattle.ty_linear.specs.Order.{IsReady}
use Rattle.ty_linear.proofs.Counts.{AreFewer}
use Rattle.ty_linear.proofs.order.release.Given as goal

abbrev pub invariant-loop-class : goal.invariant-loop-class
invariant-loop-class l = record {
  fewer : AreFewer l.initial.waiting l.waiting (take l.class-index l.classes);
  ready : IsReady l.waiting l.ready.items;
  behind : (more : List ℕ) × (l.ready.items ≡ l.initial.ready.items ++ more);
}
