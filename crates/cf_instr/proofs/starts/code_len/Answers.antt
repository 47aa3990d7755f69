use Rattle.std.proofs.Common.{arith, sym}
use Rattle.cf_instr.proofs.Sizes.{offset-zero, next_offset}
use Rattle.cf_instr.proofs.starts.code_len.Goals as goal

pub loop-instr-init : goal.loop-instr-init
loop-instr-init c = sym (offset-zero c.args.instrs.now)

pub overflow_add-len : goal.overflow_add-len
overflow_add-len c =
    omega (arith, (next_offset c.args.instrs.now c.loop-instr.instr-index _ c.loop-instr.len c.size-len.result c.loop-instr-test.true c.loop-instr.invariant c.size-len.ensures).1)

pub loop-instr-preserved : goal.loop-instr-preserved
loop-instr-preserved c =
    (next_offset c.args.instrs.now c.loop-instr.instr-index _ c.loop-instr.len c.size-len.result c.loop-instr-test.true c.loop-instr.invariant c.size-len.ensures).0
