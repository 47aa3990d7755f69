use Rattle.std.proofs.Common.{◌<◌, ◌≡◌, eqb, false, get_or, length, arith, rules}
use Rattle.sl_num.proofs.Written.{above}
use Rattle.sl_num.proofs.digits.number_up_to.Goals as goal

pub returns-in-None : goal.returns-in-None
returns-in-None c =
    let here : c.loop-c.c-index < length c.args.digits.now = omega arith in
    let digit : eqb (get_or c.args.digits.now c.loop-c.c-index 0) 95 ≡ false = search rules in
    above _ _ _ _ _ _ _ c.requires here digit c.digit_value.ensures c.loop-c.invariant.left c.in-None.ensures
