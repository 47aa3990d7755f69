use Rattle.std.proofs.Common.{FitsSigned}
use Rattle.std.specs.Int.{w32}
use Rattle.sl_num.proofs.Widths.{read32}
use Rattle.sl_num.proofs.Quotient.{quotient-signed}
use Rattle.sl_num.proofs.division.int_div.Goals as goal

pub returns-clause-quotient : goal.returns-clause-quotient
returns-clause-quotient c =
    let fits : FitsSigned w32 c.wrapping_div.result = record { sfits = c.wrapping_div.type_inv } in
    quotient-signed w32 read32 _ _ _ c.ranges.a c.ranges.b fits c.wrapping_div.ensures
