use Rattle.std.proofs.Common.{arith}
use Rattle.cf_mutf8.proofs.Progress.{read_more, further}
use Rattle.cf_mutf8.proofs.decode.fault_from.Goals as goal

pub loop-at-smaller : goal.loop-at-smaller
loop-at-smaller c = omega (arith, further c.args.bytes.now c.loop-at.at c.in-Some.character.value c.in-Some.character.size c.in-Some.ensures, c.loop-at-test.true)

pub loop-at-preserved : goal.loop-at-preserved
loop-at-preserved c =
    let reads = c.loop-at.invariant in
    (_, read_more c.args.bytes.now reads.0 c.loop-at.at c.in-Some.character.value c.in-Some.character.size reads.1 c.in-Some.ensures)
