use Rattle.std.proofs.Common.{◌≡◌, ◌++◌, ◌≤◌, take, drop}
use Rattle.sm_state.proofs.stack.cut_out.Given as goal

abbrev pub invariant-loop-n : goal.invariant-loop-n
invariant-loop-n g l = record { ordered : l.from ≤ l.n; items : l.items.items ≡ take l.from l.initial.items.items ++ drop l.n l.initial.items.items }
