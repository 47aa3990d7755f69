-- What `/` and `%` give where the divisor isn't 0 (SLS 12.2.1, JVMS 6.5: idiv, irem, ldiv, lrem).
use Rattle.std.specs.Prelude.{ℤ, pos, ◌≤ℤ◌, ◌-ℤ◌, ◌*ℤ◌, int_div}
use Rattle.sl_num.specs.Int.{signed32}
use Rattle.sl_num.specs.Long.{signed64}

-- `a / b` of Ints: the quotient of the whole numbers, rounded towards zero; only 2^31 is wrapped, to -2^31
abbrev pub int_quotient : ℤ → ℤ → ℤ
int_quotient a b = signed32 (int_div a b)

-- `a / b` of Longs
abbrev pub long_quotient : ℤ → ℤ → ℤ
long_quotient a b = signed64 (int_div a b)

-- `a % b`: what the quotient, rounded towards zero, leaves of a
abbrev pub remainder : ℤ → ℤ → ℤ
remainder a b = a -ℤ (int_div a b *ℤ b)

-- r is 0 or has the sign of a
pub record HasSignOf (a r : ℤ) : Type 0 where
  pub not_below : pos 0 ≤ℤ a → pos 0 ≤ℤ r
  pub not_above : a ≤ℤ pos 0 → r ≤ℤ pos 0
