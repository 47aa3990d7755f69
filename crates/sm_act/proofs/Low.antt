-- The low 32 bits of a number.
use Rattle.std.proofs.Common.{◌≡◌, ℕ, ◌^◌, ℤ, pos, negsuc, refl, ap, ◌∙◌}
use lib.IntN.{nat_abs}
use Rattle.std.specs.Int.{int_rem_euclid, int_wrap, cast_signed, w32}
use Rattle.sl_num.specs.Int.{signed32}
use Rattle.sl_num.proofs.Widths.{read32}

wraps_low : (n : ℤ) → cast_signed w32 (nat_abs (int_rem_euclid n (pos (2 ^ 32)))) ≡ int_wrap w32 n
unfolding int_wrap
wraps_low (pos a) = refl
wraps_low (negsuc a) = refl

pub low_wraps : (n r : ℤ) (k : ℕ) → r ≡ int_rem_euclid n (pos (2 ^ 32)) → k ≡ nat_abs r → cast_signed w32 k ≡ signed32 n
low_wraps n r k is low = ap (cast_signed w32) (low ∙ ap nat_abs is) ∙ wraps_low n ∙ read32.wraps n
