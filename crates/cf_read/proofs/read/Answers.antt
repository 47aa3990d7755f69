use Rattle.std.proofs.Common.{arith}
use Rattle.cf_read.proofs.AgainFile.{reads_again}
use Rattle.cf_read.proofs.Determined.{whole_same}
use Rattle.cf_read.proofs.Memory.{memory_only}
use Rattle.cf_read.proofs.TakesFile.{whole_found}
use Rattle.cf_read.proofs.read.Goals as goal

pub returns-in-Ok-clause-found : goal.returns-in-Ok-clause-found
returns-in-Ok-clause-found c =
    let bytes = c.args.bytes.now in
    let h = c.in-Ok.ensures in
    whole_found bytes h.0 c.in-Ok.file (λ i. omega (arith, c.type_inv.bytes i)) h.1 h.2

pub returns-in-Ok-clause-only : goal.returns-in-Ok-clause-only
returns-in-Ok-clause-only c file r = whole_same c.args.bytes.now c.in-Ok.file file c.in-Ok.ensures (reads_again c.args.bytes.now file r)

pub returns-in-Err-clause-only : goal.returns-in-Err-clause-only
returns-in-Err-clause-only c file r =
    c.fault_of.ensures.memory (memory_only c.args.bytes.now c.in-Err.stop file c.in-Err.ensures (reads_again c.args.bytes.now file r))
