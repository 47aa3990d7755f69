use Rattle.std.proofs.Common.{take}
use Rattle.sl_top.proofs.Emitted.{EmittedSoFar}
use Rattle.sl_top.proofs.compiling.put_chain.Given as goal

abbrev pub invariant-loop-term : goal.invariant-loop-term
invariant-loop-term l = EmittedSoFar l.chain.first (take l.term-index l.terms) l.waiting l.fn.code.items l.code.items
