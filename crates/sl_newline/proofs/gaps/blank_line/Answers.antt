use Rattle.std.proofs.Common.{◌≡◌, length, drop, sym, ap, ◌∙◌, arith}
use Rattle.sl_newline.proofs.Blank.{blank_from, begins, hit, passed, at_end}
use Rattle.sl_newline.proofs.gaps.blank_line.Goals as goal

pub loop-c-init : goal.loop-c-init
loop-c-init c = begins c.args.gap.now

pub returns-then-ends_blank : goal.returns-then-ends_blank
returns-then-ends_blank c = sym (c.loop-c.invariant ∙ hit c.loop-c.fresh c.args.gap.now c.loop-c.c-index c.c-item.result c.c-item.result (omega (arith, c.loop-c-test.true)) c.c-item.is (sym c.ends_blank.ensures ∙ c.if-ends_blank.true))

pub loop-c-preserved : goal.loop-c-preserved
loop-c-preserved c = rw c.is_fresh-fresh.ensures (c.loop-c.invariant ∙ passed c.loop-c.fresh c.args.gap.now c.loop-c.c-index c.c-item.result c.c-item.result (omega (arith, c.loop-c-test.true)) c.c-item.is (sym c.ends_blank.ensures ∙ c.if-ends_blank.false))

pub returns : goal.returns
returns c =
    let e : c.loop-c.c-index ≡ length c.args.gap.now = omega (arith, c.loop-c-test.false, c.loop-c.auto.c-index-end) in
    sym (c.loop-c.invariant ∙ ap (λ i. blank_from c.loop-c.fresh (drop i c.args.gap.now)) e ∙ at_end c.loop-c.fresh c.args.gap.now)
