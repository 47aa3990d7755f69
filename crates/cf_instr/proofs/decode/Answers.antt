use Rattle.std.specs.Global.{Vec}
use Rattle.cf_form.specs.declared.instr.Instr.{Instr}
use Rattle.cf_instr.proofs.Excluding.{only}
use Rattle.cf_instr.proofs.decode.Goals as goal

pub returns-clause-only : goal.returns-clause-only
returns-clause-only c = λ code h e. only (λ (v : Vec Instr). v.items) c.args.bytes.now c.whole.result code c.whole.ensures.found c.whole.ensures.faults h e
