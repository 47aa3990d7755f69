-- What std's `wrapping_div` gives is `signed` of the quotient of the whole numbers.
use Rattle.std.proofs.Common.{◌≡◌, ℕ, zero, suc, ◌/◌, ◌^◌, ◌≤◌, ℤ, pos, negsuc, neg_ℤ, FitsSigned, arith, refl, sym, ◌∙◌, ap₂}
use Rattle.std.proofs.Math.Nat.{div-le_self}
use Rattle.std.specs.Prelude.{unsigned_abs, int_div}
use Rattle.std.specs.Int.{Width, int_wrapping_div, cast_signed, cast_unsigned}
use mir.Val.{bits, hbits}
use Rattle.std.proofs.lemmas.Int.{to_z-of_z, int_wrap_fits}
use Rattle.sl_num.specs.Width.{signed}
use Rattle.sl_num.proofs.Widths.{IsRead}

abs-neg : (n : ℕ) → unsigned_abs (neg_ℤ (pos n)) ≡ n
abs-neg zero = refl
abs-neg (suc n) = refl

-- no quotient is further from 0 than the dividend
abs-quotient : (a b : ℤ) → unsigned_abs (int_div a b) ≤ unsigned_abs a
abs-quotient (pos a) (pos b) = div-le_self a b
abs-quotient (pos a) (negsuc b) = omega (arith, abs-neg (a / suc b), div-le_self a (suc b))
abs-quotient (negsuc a) (pos b) = omega (arith, abs-neg (suc a / b), div-le_self (suc a) b)
abs-quotient (negsuc a) (negsuc b) = div-le_self (suc a) (suc b)

abs-fits : (w : Width) (a : ℤ) → FitsSigned w a → unsigned_abs a ≤ 2 ^ hbits w
abs-fits w (pos a) f = omega (arith, f.sfits)
abs-fits w (negsuc a) f = omega (arith, f.sfits)

-- a number from -2^(bits - 1) to 2^(bits - 1), read from its bits
read_half : (w : Width) (width : IsRead w) (x : ℤ) → unsigned_abs x ≤ 2 ^ hbits w → cast_signed w (cast_unsigned w x) ≡ signed (bits w) x
read_half w width (pos n) most = width.reads n (omega (arith, width.half))
read_half w width (negsuc n) most =
    let fits : FitsSigned w (negsuc n) = record { sfits = omega arith } in
    to_z-of_z w (negsuc n) fits ∙ sym (int_wrap_fits w (negsuc n) fits) ∙ width.wraps (negsuc n)

wrapping_div-signed : (w : Width) (width : IsRead w) (a b : ℤ) → FitsSigned w a → int_wrapping_div w a b ≡ signed (bits w) (int_div a b)
wrapping_div-signed w width a b f =
    read_half w width (int_div a b) (omega (arith, abs-quotient a b, abs-fits w a f))

-- the same, of what a call is passed and returns
pub quotient-signed : (w : Width) (width : IsRead w) (a b r : ℤ) → FitsSigned w a → FitsSigned w b → FitsSigned w r
    → r ≡ int_wrapping_div w (cast_signed w (cast_unsigned w a)) (cast_signed w (cast_unsigned w b))
    → cast_signed w (cast_unsigned w r) ≡ signed (bits w) (int_div a b)
quotient-signed w width a b r f g h is =
    to_z-of_z w r h ∙ is
    ∙ ap₂ (int_wrapping_div w) (to_z-of_z w a f) (to_z-of_z w b g)
    ∙ wrapping_div-signed w width a b f
