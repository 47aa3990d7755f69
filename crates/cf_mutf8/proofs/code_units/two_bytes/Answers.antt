use Rattle.std.proofs.Common.{arith}
use Rattle.std.proofs.lemmas.Bool.{both_ways}
use Rattle.cf_mutf8.proofs.Units.{two_form, two_back}
use Rattle.cf_mutf8.proofs.code_units.two_bytes.Goals as goal

pub returns-then-not-is_continuation : goal.returns-then-not-is_continuation
returns-then-not-is_continuation c u l e =
    let f = two_form u c.args.first c.args.second e in
    both_ways _ c.if-not-is_continuation.true (c.is_continuation.ensures.1 (omega arith, omega arith))

pub returns-then-code-ge128 : goal.returns-then-code-ge128
returns-then-code-ge128 c =
    let r = c.is_continuation.ensures.0 c.if-not-is_continuation.false in
    two_back c.args.first c.args.second (omega arith, omega arith) (omega arith, omega arith) (grind arith)

pub returns-else-code-ge128 : goal.returns-else-code-ge128
returns-else-code-ge128 c u l e =
    let f = two_form u c.args.first c.args.second e in
    let r = c.is_continuation.ensures.0 c.if-not-is_continuation.false in
    omega arith
