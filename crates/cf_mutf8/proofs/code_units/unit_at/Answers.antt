use Rattle.std.proofs.Common.{arith}
use Rattle.cf_mutf8.proofs.Units.{one_at, two_at, three_at, begins_first, begins_two, begins_three}
use Rattle.cf_mutf8.proofs.code_units.unit_at.Goals as goal

pub returns-in-Some : goal.returns-in-Some
returns-in-Some c =
    three_at c.args.bytes.now c.args.at c.in-Some.code _ _ _ c.byte_at-first.ensures c.byte_at.ensures c.byte_at-then-first-lt240.ensures c.in-Some.ensures

pub returns-in-None : goal.returns-in-None
returns-in-None c u l rest e =
    c.in-None.ensures u l (begins_three c.args.bytes.now rest c.args.at u _ _ _ l c.byte_at-first.ensures c.byte_at.ensures c.byte_at-then-first-lt240.ensures (omega arith, omega arith) e)

pub returns-in-Some-two_bytes : goal.returns-in-Some-two_bytes
returns-in-Some-two_bytes c =
    two_at c.args.bytes.now c.args.at c.in-Some-two_bytes.code _ _ c.byte_at-first.ensures c.byte_at-then-first-lt224.ensures c.in-Some-two_bytes.ensures

pub returns-in-None-two_bytes : goal.returns-in-None-two_bytes
returns-in-None-two_bytes c u l rest e =
    c.in-None-two_bytes.ensures u l (begins_two c.args.bytes.now rest c.args.at u _ _ l c.byte_at-first.ensures c.byte_at-then-first-lt224.ensures (omega arith, omega arith) e)

pub returns-then-first-lt128 : goal.returns-then-first-lt128
returns-then-first-lt128 c = one_at c.args.bytes.now c.args.at _ c.byte_at-first.ensures (omega arith, omega arith)

pub returns-else-first-gt0 : goal.returns-else-first-gt0
returns-else-first-gt0 c u l rest e =
    let h = begins_first c.args.bytes.now rest c.args.at u _ l c.byte_at-first.ensures e in
    grind arith
