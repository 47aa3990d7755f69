use Rattle.std.proofs.Common.{pos, FitsSigned, ◌∙◌, ap, to_z-of_z}
use lib.IntN.{nat_abs}
use Rattle.std.specs.Int.{int_rem_euclid, w32, w64}
use Rattle.sm_act.proofs.Low.{low_wraps}
use Rattle.sm_act.proofs.converting.low_bits.Goals as goal

pub returns : goal.returns
returns c =
    let fits : FitsSigned w64 c.rem_euclid-low.result = record { sfits = c.rem_euclid-low.type_inv } in
    let low : FitsSigned w32 c.cast_signed.result = record { sfits = c.cast_signed.type_inv } in
    let whole = c.rem_euclid-low.ensures.value ∙ ap (λ z. int_rem_euclid z (pos 4294967296)) (to_z-of_z c.ranges.n) in
    to_z-of_z low ∙ c.cast_signed.ensures ∙ low_wraps c.args.n c.rem_euclid-low.result _ whole (ap nat_abs (to_z-of_z fits))
