use Rattle.std.proofs.Common.{FitsSigned}
use Rattle.std.specs.Int.{w64}
use Rattle.sl_num.proofs.Widths.{read64}
use Rattle.sl_num.proofs.Quotient.{quotient-signed}
use Rattle.sl_num.proofs.long_division.long_div.Goals as goal

pub returns-clause-quotient : goal.returns-clause-quotient
returns-clause-quotient c =
    let fits : FitsSigned w64 c.wrapping_div.result = record { sfits = c.wrapping_div.type_inv } in
    quotient-signed w64 read64 _ _ _ c.ranges.a c.ranges.b fits c.wrapping_div.ensures
