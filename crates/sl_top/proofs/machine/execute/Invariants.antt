use Rattle.sl_top.proofs.Steps.{Reaches}
use Rattle.sl_top.proofs.machine.execute.Given as goal

abbrev pub invariant-loop-instruction : goal.invariant-loop-instruction
invariant-loop-instruction l = Reaches l.code l.instruction-index l.machine
