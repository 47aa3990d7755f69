use Rattle.std.proofs.Common.{take}
use Rattle.cf_instr.specs.Raws.{AreSettled}
use Rattle.cf_instr.proofs.settling.is_settled.Given as goal

abbrev pub invariant-loop-raw : goal.invariant-loop-raw
invariant-loop-raw l = AreSettled l.raws l.raw-index (take l.raw-index l.raws)
