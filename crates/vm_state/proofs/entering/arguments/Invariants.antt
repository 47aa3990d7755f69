use Rattle.std.proofs.Common.{◌≡◌, ◌≤◌, take, drop}
use Rattle.vm_state.specs.Local.{as_locals}
use Rattle.vm_state.proofs.entering.arguments.Given as goal

abbrev pub invariant-loop-left : goal.invariant-loop-left
invariant-loop-left l = (l.left ≤ l.count) × (l.made ≡ as_locals (drop l.left (take l.count l.stack.values)))

abbrev pub decreases-loop-left : goal.decreases-loop-left
decreases-loop-left l = l.left
