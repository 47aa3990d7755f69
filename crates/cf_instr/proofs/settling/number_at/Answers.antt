use Rattle.cf_instr.proofs.Targets.{found_none}
use Rattle.cf_instr.proofs.settling.number_at.Goals as goal

pub returns-in-Err : goal.returns-in-Err
returns-in-Err c = found_none c.args.starts.now c.args.at c.in-Err.field-0 c.requires.not_falling c.in-Err.ensures.position
