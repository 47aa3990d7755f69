use Rattle.std.proofs.Common.{arith}
use Rattle.cf_mutf8.proofs.Pairs.{pair_form, pair_found, scalar_below, surrogate_range}
use Rattle.cf_mutf8.proofs.characters.paired.Goals as goal

pub returns-then-low-lt57344 : goal.returns-then-low-lt57344
returns-then-low-lt57344 c =
    let r = surrogate_range c.args.high c.requires (omega arith) in
    pair_found c.args.high c.args.low (omega arith) (omega arith) (omega arith) (omega arith) c.from_u32.result c.from_u32.ensures.value

pub returns-else-high-lt56320 : goal.returns-else-high-lt56320
returns-else-high-lt56320 c d s e =
    let f = pair_form d c.args.high c.args.low e in
    let b = scalar_below d s in
    grind arith
