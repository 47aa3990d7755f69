use Rattle.std.proofs.Common.{◌≡◌, drop}
use Rattle.vm_state.proofs.operands.Operands.take_off.Given as goal

abbrev pub invariant-loop-n : goal.invariant-loop-n
invariant-loop-n l = l.self ≡ record { values = drop l.n l.initial.self.values; room = l.initial.self.room }
