-- What std's operators give at a width is `signed` of the exact result.
use Rattle.std.proofs.Common.{◌≡◌, ℕ, ◌/◌, ◌^◌, ◌<◌, ℤ, pos, ◌+ℤ◌, ◌-ℤ◌, ◌*ℤ◌, FitsSigned, bit_and, bit_or, bit_xor, arith, sym, ◌∙◌, ap, ap₂}
use Rattle.std.specs.Int.{Width, int_wrapping_add, int_wrapping_sub, int_wrapping_mul, int_wrap, int_bit_and, int_bit_or, int_bit_xor, int_shl, cast_signed, cast_unsigned}
use mir.Val.{bits}
use Rattle.std.proofs.lemmas.Int.{to_z-of_z, wrapping_add_is, wrapping_sub_is, wrapping_mul_is, wrapping_mul-bits, int_wrap-mul_right}
use Rattle.std.proofs.lemmas.Nat.{and_le_l, or_lt, xor_lt, shr_le, pow_below}
use Rattle.sl_num.specs.Width.{signed, unsigned, shift_distance, left_shift, unsigned_right_shift}
use Rattle.sl_num.proofs.Widths.{IsRead}

pub wrapping_add-signed : (w : Width) (width : IsRead w) (a b : ℤ) → FitsSigned w a → FitsSigned w b → int_wrapping_add w a b ≡ signed (bits w) (a +ℤ b)
wrapping_add-signed w width a b f g = wrapping_add_is w a b f g ∙ width.wraps (a +ℤ b)

pub wrapping_sub-signed : (w : Width) (width : IsRead w) (a b : ℤ) → FitsSigned w a → FitsSigned w b → int_wrapping_sub w a b ≡ signed (bits w) (a -ℤ b)
wrapping_sub-signed w width a b f g = wrapping_sub_is w a b f g ∙ width.wraps (a -ℤ b)

pub wrapping_mul-signed : (w : Width) (width : IsRead w) (a b : ℤ) → FitsSigned w a → FitsSigned w b → int_wrapping_mul w a b ≡ signed (bits w) (a *ℤ b)
wrapping_mul-signed w width a b f g = wrapping_mul_is w a b f g ∙ width.wraps (a *ℤ b)

pub and-signed : (w : Width) (width : IsRead w) (a b : ℤ) → FitsSigned w a → FitsSigned w b
    → int_bit_and w a b ≡ signed (bits w) (pos (bit_and (unsigned (bits w) a) (unsigned (bits w) b)))
and-signed w width a b f g =
    ap₂ (λ m n. cast_signed w (bit_and m n)) (width.writes a f) (width.writes b g)
    ∙ width.reads _ (omega (arith, and_le_l (unsigned (bits w) a) (unsigned (bits w) b), width.small a))

pub or-signed : (w : Width) (width : IsRead w) (a b : ℤ) → FitsSigned w a → FitsSigned w b
    → int_bit_or w a b ≡ signed (bits w) (pos (bit_or (unsigned (bits w) a) (unsigned (bits w) b)))
or-signed w width a b f g =
    ap₂ (λ m n. cast_signed w (bit_or m n)) (width.writes a f) (width.writes b g)
    ∙ width.reads _ (or_lt (bits w) (unsigned (bits w) a) (unsigned (bits w) b) (width.small a) (width.small b))

pub xor-signed : (w : Width) (width : IsRead w) (a b : ℤ) → FitsSigned w a → FitsSigned w b
    → int_bit_xor w a b ≡ signed (bits w) (pos (bit_xor (unsigned (bits w) a) (unsigned (bits w) b)))
xor-signed w width a b f g =
    ap₂ (λ m n. cast_signed w (bit_xor m n)) (width.writes a f) (width.writes b g)
    ∙ width.reads _ (xor_lt (bits w) (unsigned (bits w) a) (unsigned (bits w) b) (width.small a) (width.small b))

-- a power of two that the width holds
wrapped_power : (w : Width) (width : IsRead w) (k : ℕ) → 2 ^ k < 2 ^ bits w → int_wrap w (pos (2 ^ k)) ≡ cast_signed w (2 ^ k)
wrapped_power w width k fits = width.wraps (pos (2 ^ k)) ∙ sym (width.reads (2 ^ k) fits)

shl-signed : (w : Width) (width : IsRead w) (a : ℤ) (k : ℕ) → FitsSigned w a → k < bits w
    → int_shl w a k ≡ signed (bits w) (a *ℤ pos (2 ^ k))
shl-signed w width a k f few =
    let fits : 2 ^ k < 2 ^ bits w = pow_below k (bits w) few in
    let below : cast_unsigned w a < 2 ^ bits w = omega (arith, width.writes a f, width.small a) in
    wrapping_mul-bits w (cast_unsigned w a) (2 ^ k) below fits
    ∙ ap₂ (λ x y. int_wrap w (x *ℤ y)) (to_z-of_z w a f) (sym (wrapped_power w width k fits))
    ∙ int_wrap-mul_right w a (pos (2 ^ k))
    ∙ width.wraps (a *ℤ pos (2 ^ k))

-- the same where the distance is that of b, as it is passed to a call
pub shl-left_shift : (w : Width) (width : IsRead w) (a b : ℤ) (k : ℕ) → FitsSigned w a → FitsSigned w b
    → k ≡ shift_distance (bits w) (cast_signed w (cast_unsigned w b)) → k < bits w → int_shl w a k ≡ left_shift (bits w) a b
shl-left_shift w width a b k f g is few =
    shl-signed w width a k f few
    ∙ ap (λ n. signed (bits w) (a *ℤ pos (2 ^ n))) (is ∙ ap (shift_distance (bits w)) (to_z-of_z w b g))

-- r has the bits u, those of a, moved right by k
pub shr-unsigned_right_shift : (w : Width) (width : IsRead w) (a b r : ℤ) (u k : ℕ) → FitsSigned w a → FitsSigned w b → FitsSigned w r
    → u ≡ cast_unsigned w (cast_signed w (cast_unsigned w a)) → k ≡ shift_distance (bits w) (cast_signed w (cast_unsigned w b))
    → r ≡ cast_signed w (u / 2 ^ k) → cast_signed w (cast_unsigned w r) ≡ unsigned_right_shift (bits w) a b
shr-unsigned_right_shift w width a b r u k f g h of_a of_b is =
    let bits_of_a : u ≡ unsigned (bits w) a = of_a ∙ ap (cast_unsigned w) (to_z-of_z w a f) ∙ width.writes a f in
    let distance : k ≡ shift_distance (bits w) b = of_b ∙ ap (shift_distance (bits w)) (to_z-of_z w b g) in
    to_z-of_z w r h ∙ is
    ∙ ap₂ (λ m n. cast_signed w (m / 2 ^ n)) bits_of_a distance
    ∙ width.reads _ (omega (arith, shr_le (unsigned (bits w) a) (shift_distance (bits w) b), width.small a))
