use Rattle.cf_instr.proofs.Sizes.{size-within}
use Rattle.cf_instr.proofs.Codes.{code-rises, code-long}
use Rattle.cf_instr.proofs.laws.rising.Goals as goal

pub returns-clause-size : goal.returns-clause-size
returns-clause-size c = size-within

pub returns-clause-rises : goal.returns-clause-rises
returns-clause-rises c = code-rises

pub returns-clause-long : goal.returns-clause-long
returns-clause-long c = code-long
