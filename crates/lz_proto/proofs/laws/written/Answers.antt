use Rattle.lz_proto.proofs.WrittenOnce.{returned_once, value_kept}
use Rattle.lz_proto.proofs.laws.written.Goals as goal

pub returns-clause-once : goal.returns-clause-once
returns-clause-once c = returned_once

pub returns-clause-stays : goal.returns-clause-stays
returns-clause-stays c = value_kept
