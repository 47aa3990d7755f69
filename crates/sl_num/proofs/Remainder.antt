-- A remainder's size and sign, and the identity that it keeps.
use Rattle.std.proofs.Common.{◌≡◌, ◌≢◌, zero, suc, ◌<◌, ℤ, pos, negsuc, ◌+ℤ◌, ◌*ℤ◌, FitsSigned, arith, refl, sym, ◌∙◌, ap}
use Rattle.std.proofs.Math.Nat.{mod-le}
use Rattle.std.specs.Prelude.{unsigned_abs, int_div, int_rem}
use Rattle.std.specs.Int.{Width, int_wrap}
use mir.Val.{bits}
use Rattle.std.proofs.lemmas.Int.{ints, quot-rem, rem_below, int_wrap-add_left, int_wrap-mul_left, int_wrap-add_same, int_wrap_fits}
use Rattle.sl_num.specs.Width.{signed}
use Rattle.sl_num.specs.Division.{remainder, HasSignOf}
use Rattle.sl_num.proofs.Widths.{IsRead}

remainder-rem : (a b : ℤ) → remainder a b ≡ int_rem a b
remainder-rem a b = omega (arith, ints, quot-rem a b)

abs-pos : (b : ℤ) → b ≢ pos 0 → 0 < unsigned_abs b
abs-pos (pos zero) some = absurd (some refl)
abs-pos (pos (suc n)) some = omega arith
abs-pos (negsuc n) some = omega arith

pub size : (a b : ℤ) → b ≢ pos 0 → unsigned_abs (remainder a b) < unsigned_abs b
size a b some = rw remainder-rem (rem_below a b (abs-pos b some))

sign_of_rem : (a b : ℤ) → HasSignOf a (int_rem a b)
sign_of_rem (pos n) b = record { not_below = λ h. omega (arith, ints); not_above = λ h. omega (arith, ints, mod-le n (unsigned_abs b)) }
sign_of_rem (negsuc n) b = record { not_below = λ h. absurd (omega (arith, ints)); not_above = λ h. omega (arith, ints) }

pub sign : (a b : ℤ) → HasSignOf a (remainder a b)
sign a b = rw remainder-rem (sign_of_rem a b)

-- `(a / b) * b + a % b`, each step wrapped
pub identity : (w : Width) (width : IsRead w) (a b : ℤ) → FitsSigned w a
    → signed (bits w) (signed (bits w) (signed (bits w) (int_div a b) *ℤ b) +ℤ remainder a b) ≡ a
identity w width a b f =
    let q : ℤ = int_div a b in
    let r : ℤ = remainder a b in
    let whole : (q *ℤ b) +ℤ r ≡ a = omega (arith, ints) in
    sym (width.wraps (signed (bits w) (signed (bits w) q *ℤ b) +ℤ r))
    ∙ ap (λ x. int_wrap w (x +ℤ r)) (sym (width.wraps (signed (bits w) q *ℤ b)))
    ∙ int_wrap-add_left w (signed (bits w) q *ℤ b) r
    ∙ ap (λ x. int_wrap w ((x *ℤ b) +ℤ r)) (sym (width.wraps q))
    ∙ int_wrap-add_same w (int_wrap w q *ℤ b) (q *ℤ b) r (int_wrap-mul_left w q b)
    ∙ ap (int_wrap w) whole
    ∙ int_wrap_fits w a f
