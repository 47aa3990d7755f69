use Rattle.std.proofs.Common.{◌≡◌}
use Rattle.cf_form.specs.Instructions.{offset}
use Rattle.cf_instr.proofs.starts.code_len.Given as goal

abbrev pub invariant-loop-instr : goal.invariant-loop-instr
invariant-loop-instr l = l.len ≡ offset l.instrs l.instr-index
