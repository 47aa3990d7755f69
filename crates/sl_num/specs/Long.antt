-- The numbers of Scala's Long, those of 64 bits in two's complement (SLS 12.2.1, JVMS 2.3.1), and what its operators give (JVMS 6.5).
use Rattle.std.specs.Prelude.{ℕ, ℤ}
use Rattle.sl_num.specs.Width.{signed, unsigned, IsWrappedTo, shift_distance, value}
use Rattle.sl_num.specs.declared.int_op.IntOp.{IntOp}

-- the number from -2^63 to 2^63 - 1 that differs from x by a multiple of 2^64
abbrev pub signed64 : ℤ → ℤ
signed64 x = signed 64 x

-- r is a Long, and differs from x by a multiple of 2^64
abbrev pub IsWrappedLong : ℤ → ℤ → Type 0
IsWrappedLong x r = IsWrappedTo 64 x r

-- the number from 0 to 2^64 - 1 that differs from x by a multiple of 2^64, whose binary digits are the bits of x
abbrev pub unsigned64 : ℤ → ℕ
unsigned64 x = unsigned 64 x

-- the number that the six low-order bits of b make, from 0 to 63
abbrev pub long_shift_count : ℤ → ℕ
long_shift_count b = shift_distance 64 b

-- `a OP b`
abbrev pub long : IntOp → ℤ → ℤ → ℤ
long op a b = value 64 op a b
