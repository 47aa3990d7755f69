use Rattle.std.proofs.Common.{take}
use Rattle.std.specs.List.{AllByRecursion}
use Rattle.cf_form.specs.ClassFiles.{NamesWell}
use Rattle.cf_read.proofs.naming.all_name_well.Given as goal

abbrev pub invariant-loop-instr : goal.invariant-loop-instr
invariant-loop-instr l = AllByRecursion (NamesWell l.pool) (take l.instr-index l.instrs)
