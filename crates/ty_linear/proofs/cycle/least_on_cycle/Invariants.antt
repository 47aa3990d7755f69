use Rattle.std.proofs.Common.{◌≡◌, ◌≤◌, ◌<◌, ℕ, length}
use Rattle.std.specs.List.{All}
use Rattle.ty_linear.specs.Linear.{rows, IsAncestor}
use Rattle.ty_linear.proofs.cycle.least_on_cycle.Given as goal

abbrev pub invariant-loop-class : goal.invariant-loop-class
invariant-loop-class l = record {
  marks : length l.marks.items ≡ length l.parents;
  below : All (λ mark. mark ≤ l.class) l.marks.items;
  others : (x : ℕ) → x < l.class → ¬ (IsAncestor (rows l.parents) x x);
}
