-- How a width's bits are read as a signed number: what std's casts and `int_wrap` give is `signed` and `unsigned`.
use Rattle.std.proofs.Common.{◌≡◌, ℕ, suc, ◌+◌, ◌-◌, ◌*◌, ◌%◌, ◌^◌, ◌<◌, ◌≤◌, ℤ, pos, negsuc, ◌+ℤ◌, ◌-ℤ◌, FitsSigned, arith, sym, ◌∙◌, ap, lit<, refl}
use Rattle.std.specs.Int.{Width, int_rem_euclid, int_wrap, cast_signed, cast_unsigned, w32, w64}
use mir.Val.{bits, hbits}
use Rattle.std.proofs.lemmas.Int.{ints, int_rem_euclid_is}
use Rattle.sl_num.specs.Width.{signed, unsigned}

-- the facts that the operators' proofs take of a width, proved for each by its numerals
pub record IsRead (w : Width) : Type 0 where
  pub wraps : (x : ℤ) → int_wrap w x ≡ signed (bits w) x
  pub reads : (n : ℕ) → n < 2 ^ bits w → cast_signed w n ≡ signed (bits w) (pos n)
  pub writes : (x : ℤ) → FitsSigned w x → cast_unsigned w x ≡ unsigned (bits w) x
  pub small : (x : ℤ) → unsigned (bits w) x < 2 ^ bits w
  pub half : 2 ^ hbits w < 2 ^ bits w

-- a number of 32 bits, read as signed
read_signed32 : (u v : ℕ) → u < 2 ^ 32 → v ≡ (u + 2 ^ 31) % 2 ^ 32 → cast_signed w32 u ≡ pos v -ℤ pos (2 ^ 31)
read_signed32 u v small is = grind (arith, ints)

wraps32 : (x : ℤ) → int_wrap w32 x ≡ signed 32 x
unfolding int_wrap signed
wraps32 (pos n) = read_signed32 (n % 2 ^ 32) ((n + 2 ^ 31) % 2 ^ 32) (omega arith) (omega arith)
wraps32 (negsuc n) =
    let m : ℕ = suc n * 2 ^ 32 + 2 ^ 31 - suc n in
    let e : int_rem_euclid (negsuc n +ℤ pos (2 ^ 31)) (pos (2 ^ 32)) ≡ pos (m % 2 ^ 32) =
    int_rem_euclid_is (negsuc n +ℤ pos (2 ^ 31)) (pos (2 ^ 32)) (2 ^ 32) (suc n) m (lit< tt) refl (omega (arith, ints)) in
    read_signed32 (2 ^ 32 - 1 - n % 2 ^ 32) (m % 2 ^ 32) (omega arith) (omega arith) ∙ sym (ap (λ r. r -ℤ pos (2 ^ 31)) e)

reads32 : (n : ℕ) → n < 2 ^ 32 → cast_signed w32 n ≡ signed 32 (pos n)
unfolding signed
reads32 n small = read_signed32 n ((n + 2 ^ 31) % 2 ^ 32) small refl

writes32 : (x : ℤ) → FitsSigned w32 x → cast_unsigned w32 x ≡ unsigned 32 x
unfolding unsigned
writes32 (pos n) fits = let small : n < 2 ^ 31 = fits.sfits in omega arith
writes32 (negsuc n) fits = let small : suc n ≤ 2 ^ 31 = omega (arith, fits.sfits) in omega arith

small32 : (x : ℤ) → unsigned 32 x < 2 ^ 32
unfolding unsigned
small32 (pos n) = omega arith
small32 (negsuc n) = omega arith

pub read32 : IsRead w32
read32 = record { wraps = wraps32; reads = reads32; writes = writes32; small = small32; half = lit< tt }

-- a number of 64 bits, read as signed
read_signed64 : (u v : ℕ) → u < 2 ^ 64 → v ≡ (u + 2 ^ 63) % 2 ^ 64 → cast_signed w64 u ≡ pos v -ℤ pos (2 ^ 63)
read_signed64 u v small is = grind (arith, ints)

wraps64 : (x : ℤ) → int_wrap w64 x ≡ signed 64 x
unfolding int_wrap signed
wraps64 (pos n) = read_signed64 (n % 2 ^ 64) ((n + 2 ^ 63) % 2 ^ 64) (omega arith) (omega arith)
wraps64 (negsuc n) =
    let m : ℕ = suc n * 2 ^ 64 + 2 ^ 63 - suc n in
    let e : int_rem_euclid (negsuc n +ℤ pos (2 ^ 63)) (pos (2 ^ 64)) ≡ pos (m % 2 ^ 64) =
    int_rem_euclid_is (negsuc n +ℤ pos (2 ^ 63)) (pos (2 ^ 64)) (2 ^ 64) (suc n) m (lit< tt) refl (omega (arith, ints)) in
    read_signed64 (2 ^ 64 - 1 - n % 2 ^ 64) (m % 2 ^ 64) (omega arith) (omega arith) ∙ sym (ap (λ r. r -ℤ pos (2 ^ 63)) e)

reads64 : (n : ℕ) → n < 2 ^ 64 → cast_signed w64 n ≡ signed 64 (pos n)
unfolding signed
reads64 n small = read_signed64 n ((n + 2 ^ 63) % 2 ^ 64) small refl

writes64 : (x : ℤ) → FitsSigned w64 x → cast_unsigned w64 x ≡ unsigned 64 x
unfolding unsigned
writes64 (pos n) fits = let small : n < 2 ^ 63 = fits.sfits in omega arith
writes64 (negsuc n) fits = let small : suc n ≤ 2 ^ 63 = omega (arith, fits.sfits) in omega arith

small64 : (x : ℤ) → unsigned 64 x < 2 ^ 64
unfolding unsigned
small64 (pos n) = omega arith
small64 (negsuc n) = omega arith

pub read64 : IsRead w64
read64 = record { wraps = wraps64; reads = reads64; writes = writes64; small = small64; half = lit< tt }
