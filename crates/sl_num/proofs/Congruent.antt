-- `signed bits x` is the one number of that many bits that differs from x by a multiple of 2^bits.
use Rattle.std.proofs.Common.{◌≡◌, ℕ, suc, ◌+◌, ◌-◌, ◌*◌, ◌/◌, ◌%◌, ◌^◌, ◌<◌, ℤ, pos, negsuc, ◌+ℤ◌, ◌-ℤ◌, ◌*ℤ◌, arith, sym, ◌∙◌, ap, lit<, refl}
use Rattle.std.proofs.lemmas.Int.{ints, int_rem_euclid_is}
use Rattle.sl_num.specs.Width.{signed, IsWrappedTo}

-- x, moved up by k multiples of 2^32 to a number that is not below -2^31
signed32_is : (x : ℤ) (k m : ℕ) → (x +ℤ pos (2 ^ 31)) +ℤ pos (k * 2 ^ 32) ≡ pos m → signed 32 x ≡ pos (m % 2 ^ 32) -ℤ pos (2 ^ 31)
unfolding signed
signed32_is x k m e =
    ap (λ r. r -ℤ pos (2 ^ 31)) (int_rem_euclid_is (x +ℤ pos (2 ^ 31)) (pos (2 ^ 32)) (2 ^ 32) k m (lit< tt) refl e)

wrapped_from32 : (x r : ℤ) (k m : ℕ) → (x +ℤ pos (2 ^ 31)) +ℤ pos (k * 2 ^ 32) ≡ pos m → r ≡ pos (m % 2 ^ 32) -ℤ pos (2 ^ 31) → IsWrappedTo 32 x r
wrapped_from32 x r k m e is = record {
  from = omega (arith, ints);
  below = omega (arith, ints);
  multiple = (pos (m / 2 ^ 32) -ℤ pos k, omega (arith, ints));
}

pub wrapped32 : (x : ℤ) → IsWrappedTo 32 x (signed 32 x)
wrapped32 (pos n) =
    let e : (pos n +ℤ pos (2 ^ 31)) +ℤ pos (0 * 2 ^ 32) ≡ pos (n + 2 ^ 31) = omega (arith, ints) in
    wrapped_from32 (pos n) (signed 32 (pos n)) 0 (n + 2 ^ 31) e (signed32_is (pos n) 0 (n + 2 ^ 31) e)
wrapped32 (negsuc n) =
    let m : ℕ = suc n * 2 ^ 32 + 2 ^ 31 - suc n in
    let e : (negsuc n +ℤ pos (2 ^ 31)) +ℤ pos (suc n * 2 ^ 32) ≡ pos m = omega (arith, ints) in
    wrapped_from32 (negsuc n) (signed 32 (negsuc n)) (suc n) m e (signed32_is (negsuc n) (suc n) m e)

-- r is u less 2^31, where u is below 2^32
only_from32 : (x r : ℤ) (u j k : ℕ) → u < 2 ^ 32 → r ≡ pos u -ℤ pos (2 ^ 31) → (x +ℤ pos (2 ^ 31)) +ℤ pos (k * 2 ^ 32) ≡ pos (u + j * 2 ^ 32) → r ≡ signed 32 x
only_from32 x r u j k small is e =
    let same : (u + j * 2 ^ 32) % 2 ^ 32 ≡ u = omega arith in
    is ∙ sym (signed32_is x k (u + j * 2 ^ 32) e ∙ ap (λ v. pos v -ℤ pos (2 ^ 31)) same)

differs32 : (x r k : ℤ) (u : ℕ) → u < 2 ^ 32 → r ≡ pos u -ℤ pos (2 ^ 31) → x ≡ r +ℤ (k *ℤ pos (2 ^ 32)) → r ≡ signed 32 x
differs32 x r (pos j) u small is e = only_from32 x r u j 0 small is (omega (arith, ints))
differs32 x r (negsuc j) u small is e = only_from32 x r u 0 (suc j) small is (omega (arith, ints))

pub only32 : (x r : ℤ) → IsWrappedTo 32 x r → r ≡ signed 32 x
only32 x (pos n) h =
    differs32 x (pos n) h.multiple.0 (n + 2 ^ 31) (omega (arith, ints, h.below)) (omega (arith, ints)) h.multiple.1
only32 x (negsuc n) h =
    differs32 x (negsuc n) h.multiple.0 (2 ^ 31 - suc n) (omega arith) (omega (arith, ints, h.from)) h.multiple.1

-- x, moved up by k multiples of 2^64 to a number that is not below -2^63
signed64_is : (x : ℤ) (k m : ℕ) → (x +ℤ pos (2 ^ 63)) +ℤ pos (k * 2 ^ 64) ≡ pos m → signed 64 x ≡ pos (m % 2 ^ 64) -ℤ pos (2 ^ 63)
unfolding signed
signed64_is x k m e =
    ap (λ r. r -ℤ pos (2 ^ 63)) (int_rem_euclid_is (x +ℤ pos (2 ^ 63)) (pos (2 ^ 64)) (2 ^ 64) k m (lit< tt) refl e)

wrapped_from64 : (x r : ℤ) (k m : ℕ) → (x +ℤ pos (2 ^ 63)) +ℤ pos (k * 2 ^ 64) ≡ pos m → r ≡ pos (m % 2 ^ 64) -ℤ pos (2 ^ 63) → IsWrappedTo 64 x r
wrapped_from64 x r k m e is = record {
  from = omega (arith, ints);
  below = omega (arith, ints);
  multiple = (pos (m / 2 ^ 64) -ℤ pos k, omega (arith, ints));
}

pub wrapped64 : (x : ℤ) → IsWrappedTo 64 x (signed 64 x)
wrapped64 (pos n) =
    let e : (pos n +ℤ pos (2 ^ 63)) +ℤ pos (0 * 2 ^ 64) ≡ pos (n + 2 ^ 63) = omega (arith, ints) in
    wrapped_from64 (pos n) (signed 64 (pos n)) 0 (n + 2 ^ 63) e (signed64_is (pos n) 0 (n + 2 ^ 63) e)
wrapped64 (negsuc n) =
    let m : ℕ = suc n * 2 ^ 64 + 2 ^ 63 - suc n in
    let e : (negsuc n +ℤ pos (2 ^ 63)) +ℤ pos (suc n * 2 ^ 64) ≡ pos m = omega (arith, ints) in
    wrapped_from64 (negsuc n) (signed 64 (negsuc n)) (suc n) m e (signed64_is (negsuc n) (suc n) m e)

-- r is u less 2^63, where u is below 2^64
only_from64 : (x r : ℤ) (u j k : ℕ) → u < 2 ^ 64 → r ≡ pos u -ℤ pos (2 ^ 63) → (x +ℤ pos (2 ^ 63)) +ℤ pos (k * 2 ^ 64) ≡ pos (u + j * 2 ^ 64) → r ≡ signed 64 x
only_from64 x r u j k small is e =
    let same : (u + j * 2 ^ 64) % 2 ^ 64 ≡ u = omega arith in
    is ∙ sym (signed64_is x k (u + j * 2 ^ 64) e ∙ ap (λ v. pos v -ℤ pos (2 ^ 63)) same)

differs64 : (x r k : ℤ) (u : ℕ) → u < 2 ^ 64 → r ≡ pos u -ℤ pos (2 ^ 63) → x ≡ r +ℤ (k *ℤ pos (2 ^ 64)) → r ≡ signed 64 x
differs64 x r (pos j) u small is e = only_from64 x r u j 0 small is (omega (arith, ints))
differs64 x r (negsuc j) u small is e = only_from64 x r u 0 (suc j) small is (omega (arith, ints))

pub only64 : (x r : ℤ) → IsWrappedTo 64 x r → r ≡ signed 64 x
only64 x (pos n) h =
    differs64 x (pos n) h.multiple.0 (n + 2 ^ 63) (omega (arith, ints, h.below)) (omega (arith, ints)) h.multiple.1
only64 x (negsuc n) h =
    differs64 x (negsuc n) h.multiple.0 (2 ^ 63 - suc n) (omega arith) (omega (arith, ints, h.from)) h.multiple.1
