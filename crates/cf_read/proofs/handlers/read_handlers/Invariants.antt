use Rattle.std.proofs.Common.{map, take}
use Rattle.cf_read.specs.Looking.{AreHandlers}
use Rattle.cf_read.specs.Views.{row_of}
use Rattle.cf_read.proofs.handlers.read_handlers.Given as goal

abbrev pub invariant-loop-n : goal.invariant-loop-n
invariant-loop-n l = AreHandlers l.pool l.code (map row_of (take l.n l.rows)) l.handlers
