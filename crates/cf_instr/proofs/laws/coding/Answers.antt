use Rattle.cf_instr.proofs.Codes.{one_code}
use Rattle.cf_instr.proofs.Excluding.{one_fault, not_code}
use Rattle.cf_instr.proofs.laws.coding.Goals as goal

pub returns-clause-one : goal.returns-clause-one
returns-clause-one c = one_code

pub returns-clause-fault : goal.returns-clause-fault
returns-clause-fault c = one_fault

pub returns-clause-apart : goal.returns-clause-apart
returns-clause-apart c = not_code
