use Rattle.std.proofs.Common.{◌-◌, length}
use Rattle.ty_linear.specs.Linear.{rows}
use Rattle.ty_linear.proofs.Settled.{IsSettled}
use Rattle.ty_linear.proofs.order.order_of.Given as goal

abbrev pub invariant-loop-number : goal.invariant-loop-number
invariant-loop-number l = IsSettled (rows l.parents) l.waiting.items l.order.items l.number

abbrev pub decreases-loop-number : goal.decreases-loop-number
decreases-loop-number l = length l.parents - l.number
