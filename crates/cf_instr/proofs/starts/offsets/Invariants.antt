use Rattle.cf_instr.specs.Raws.{AreOffsetsTo}
use Rattle.cf_instr.proofs.starts.offsets.Given as goal

abbrev pub invariant-loop-instr : goal.invariant-loop-instr
invariant-loop-instr l = AreOffsetsTo l.instrs l.instr-index l.at l.offsets.items
