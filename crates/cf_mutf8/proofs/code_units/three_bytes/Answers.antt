use Rattle.std.proofs.Common.{arith}
use Rattle.std.proofs.lemmas.Bool.{both_ways}
use Rattle.cf_mutf8.proofs.Units.{three_form, three_back}
use Rattle.cf_mutf8.proofs.code_units.three_bytes.Goals as goal
use Rattle.cf_mutf8.proofs.code_units.three_bytes.Goals.{then-not-is_continuation-via-then-not-is_continuation, then-not-is_continuation-via-else-not-is_continuation+then-not-is_continuation-2}

pub returns-then-not-is_continuation : goal.returns-then-not-is_continuation
returns-then-not-is_continuation c u l e =
    let f = three_form u c.args.first c.args.second c.args.third e in
    elim c.then-not-is_continuation.branch [
      | then-not-is_continuation-via-then-not-is_continuation w ↦
          both_ways _ w.if-not-is_continuation.true (c.is_continuation.ensures.1 (omega arith, omega arith))
      | then-not-is_continuation-via-else-not-is_continuation+then-not-is_continuation-2 w ↦
          both_ways _ w.if-not-is_continuation-2.true (w.is_continuation-else-not-is_continuation.ensures.1 (omega arith, omega arith))
    ]

pub returns-then-code-ge2048 : goal.returns-then-code-ge2048
returns-then-code-ge2048 c =
    let r = c.is_continuation.ensures.0 c.if-not-is_continuation.false in
    let s = c.is_continuation-else-not-is_continuation.ensures.0 c.if-not-is_continuation-2.false in
    three_back c.args.first c.args.second c.args.third (omega arith, omega arith) (omega arith, omega arith) (omega arith, omega arith) (omega arith)

pub returns-else-code-ge2048 : goal.returns-else-code-ge2048
returns-else-code-ge2048 c u l e =
    let f = three_form u c.args.first c.args.second c.args.third e in
    let r = c.is_continuation.ensures.0 c.if-not-is_continuation.false in
    let s = c.is_continuation-else-not-is_continuation.ensures.0 c.if-not-is_continuation-2.false in
    omega arith
