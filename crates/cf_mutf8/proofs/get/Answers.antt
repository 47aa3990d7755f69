use Rattle.std.proofs.Common.{arith}
use Rattle.cf_mutf8.proofs.Progress.{read_start, read_all, cause_bad}
use Rattle.cf_mutf8.proofs.Texts.{bad_apart}
use Rattle.cf_mutf8.proofs.get.Goals as goal

pub loop-at-init : goal.loop-at-init
loop-at-init c = read_start c.args.bytes.now _ c.new-text.ensures.bytes

pub returns-in-Err-clause-bad_utf : goal.returns-in-Err-clause-bad_utf
returns-in-Err-clause-bad_utf c = cause_bad _ c.args.bytes.now c.in-Err.fault c.in-Err.ensures

pub returns-clause-bad_utf : goal.returns-clause-bad_utf
returns-clause-bad_utf c at =
    (λ e. cc, λ h. absurd (bad_apart c.args.bytes.now _ at h (read_all c.args.bytes.now _ c.loop-at.at c.loop-at.invariant (omega arith))))
