use Rattle.std.proofs.Common.{ℕ, arith, length-take}
use Rattle.sl_io.proofs.ReadUpTo.{consumes_up_to}
use Rattle.sl_io.proofs.whole_file.read_whole.Goals as goal

pub returns-then-count-limit-clause-reads : goal.returns-then-count-limit-clause-reads
returns-then-count-limit-clause-reads g c =
    consumes_up_to _ _ _ _ _ _ _ c.loop-bytes.invariant.consumed c.in-Ok.ensures.bytes.0 (omega (arith, c.in-Ok.ensures.bound, length-take {A = ℕ}))

pub returns-then-is_err-clause-reads : goal.returns-then-is_err-clause-reads
returns-then-is_err-clause-reads g c =
    consumes_up_to _ _ _ _ _ _ _ c.loop-bytes.invariant.consumed c.in-Ok.ensures.bytes.0 (omega (arith, c.in-Ok.ensures.bound, length-take {A = ℕ}))
