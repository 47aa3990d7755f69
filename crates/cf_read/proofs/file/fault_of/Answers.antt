use Rattle.std.proofs.Common.{subst}
use Rattle.cf_read.specs.Looking.{IsFileStop}
use Rattle.cf_read.proofs.Within.{met_within, fault_at}
use Rattle.cf_read.proofs.file.fault_of.Goals as goal

pub overflow_sub-result : goal.overflow_sub-result
overflow_sub-result c = met_within c.args.bytes.now c.in-Met.fault (subst (IsFileStop c.args.bytes.now) c.in-Met.is c.requires.stops)

pub returns-in-Met-clause-faults : goal.returns-in-Met-clause-faults
returns-in-Met-clause-faults c = fault_at c.args.bytes.now c.in-Met.fault (subst (IsFileStop c.args.bytes.now) c.in-Met.is c.requires.stops)
