use Rattle.cf_read.proofs.OneFault.{one_file_fault, fault_apart}
use Rattle.cf_read.proofs.laws.faults.Goals as goal

pub returns-clause-one : goal.returns-clause-one
returns-clause-one c = one_file_fault

pub returns-clause-apart : goal.returns-clause-apart
returns-clause-apart c = fault_apart
