use Rattle.std.proofs.Common.{take}
use Rattle.cf_read.proofs.Numbering.{IsNumbering}
use Rattle.cf_read.proofs.text_numbers.text_numbers.Given as goal

abbrev pub invariant-loop-i : goal.invariant-loop-i
invariant-loop-i l = IsNumbering (take l.i l.pool) l.texts.items l.firsts
