-- The numbers of so many bits in two's complement (JVMS 2.3.1), and what the operators on them give (JVMS 6.5).
use Rattle.std.specs.Prelude.{◌≡◌, ◌≤ℤ◌, ◌<ℤ◌, neg_ℤ, ℕ, ◌-◌, ◌/◌, ◌^◌, ℤ, pos, ◌+ℤ◌, ◌-ℤ◌, ◌*ℤ◌, unsigned_abs, bit_and, bit_or, bit_xor}
use Rattle.std.specs.Int.{int_div_euclid, int_rem_euclid}
use Rattle.sl_num.specs.declared.int_op.IntOp.{IntOp}
use Rattle.sl_num.specs.declared.int_op.IntOp.TheVariants.{Add, Sub, Mul, And, Or, Xor, Shl, Shr, Ushr}

-- the number from -2^(bits - 1) to 2^(bits - 1) - 1 that differs from x by a multiple of 2^bits
unfoldable pub signed : ℕ → ℤ → ℤ
signed bits x = int_rem_euclid (x +ℤ pos (2 ^ (bits - 1))) (pos (2 ^ bits)) -ℤ pos (2 ^ (bits - 1))

-- r is from -2^(bits - 1) to 2^(bits - 1) - 1, and differs from x by a multiple of 2^bits
pub record IsWrappedTo (bits : ℕ) (x r : ℤ) : Type 0 where
  pub from : neg_ℤ (pos (2 ^ (bits - 1))) ≤ℤ r
  pub below : r <ℤ pos (2 ^ (bits - 1))
  pub multiple : (k : ℤ) × (x ≡ r +ℤ (k *ℤ pos (2 ^ bits)))

-- the number from 0 to 2^bits - 1 that differs from x by a multiple of 2^bits, whose binary digits are the bits of x
unfoldable pub unsigned : ℕ → ℤ → ℕ
unsigned bits x = unsigned_abs (int_rem_euclid x (pos (2 ^ bits)))

-- the number from 0 to bits - 1 that the low-order bits of b make: five of them for 32 bits, six for 64
abbrev pub shift_distance : ℕ → ℤ → ℕ
shift_distance bits b = unsigned_abs (int_rem_euclid b (pos bits))

-- `a << b`
abbrev pub left_shift : ℕ → ℤ → ℤ → ℤ
left_shift bits a b = signed bits (a *ℤ pos (2 ^ shift_distance bits b))

-- `a >> b`: the quotient, rounded down
abbrev pub right_shift : ℕ → ℤ → ℤ → ℤ
right_shift bits a b = int_div_euclid a (pos (2 ^ shift_distance bits b))

-- `a >>> b`: zeros come in from the left
abbrev pub unsigned_right_shift : ℕ → ℤ → ℤ → ℤ
unsigned_right_shift bits a b = signed bits (pos (unsigned bits a / 2 ^ shift_distance bits b))

-- `a OP b`
abbrev pub value : ℕ → IntOp → ℤ → ℤ → ℤ
value bits Add a b = signed bits (a +ℤ b)
value bits Sub a b = signed bits (a -ℤ b)
value bits Mul a b = signed bits (a *ℤ b)
value bits And a b = signed bits (pos (bit_and (unsigned bits a) (unsigned bits b)))
value bits Or a b = signed bits (pos (bit_or (unsigned bits a) (unsigned bits b)))
value bits Xor a b = signed bits (pos (bit_xor (unsigned bits a) (unsigned bits b)))
value bits Shl a b = left_shift bits a b
value bits Shr a b = right_shift bits a b
value bits Ushr a b = unsigned_right_shift bits a b
