use Rattle.std.proofs.Common.{◌≡◌, ◌≤◌, length, take}
use Rattle.std.specs.List.{All}
use Rattle.ty_linear.specs.Linear.{rows}
use Rattle.ty_linear.proofs.Tables.{Have}
use Rattle.ty_linear.proofs.lists.lists_of.Given as goal

abbrev pub invariant-loop-number : goal.invariant-loop-number
invariant-loop-number l = record {
  lists : length l.lists.items ≡ length l.parents;
  marks : length l.marks.items ≡ length l.parents;
  below : All (λ mark. mark ≤ l.number) l.marks.items;
  have : Have (rows l.parents) l.lists.items (take l.number l.order);
}
