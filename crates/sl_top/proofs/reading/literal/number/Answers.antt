use Rattle.std.proofs.Common.{ℕ, ◌*◌, ◌+◌, subst, sym, arith}
use Rattle.sl_top.specs.Reading.{HasDigits}
use Rattle.sl_top.proofs.Digits.{digits_go_on}
use Rattle.sl_top.proofs.reading.literal.number.Goals as goal

pub returns-then-value-gt-GREATEST : goal.returns-then-value-gt-GREATEST
returns-then-value-gt-GREATEST c =
    let h = digits_go_on c.args.bytes.now c.digits.value c.digits.rest.now c.in-Some.next c.in-Some.after.now c.digits.invariant.read c.in-Some.ensures.0 c.in-Some.ensures.1 in
    (10 * c.digits.value + c.in-Some.next, c.in-Some.after.now, h, omega arith)

pub digits-preserved : goal.digits-preserved
digits-preserved c =
    let h = digits_go_on c.args.bytes.now c.digits.value c.digits.rest.now c.in-Some.next c.in-Some.after.now c.digits.invariant.read c.in-Some.ensures.0 c.in-Some.ensures.1 in
    record { small = omega arith; read = subst (λ (d : ℕ). HasDigits c.args.bytes.now (10 * c.digits.value + d) c.in-Some.after.now) (sym c.from.ensures) h }
