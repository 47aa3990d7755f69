-- The numbers of Scala's Int, those of 32 bits in two's complement (SLS 12.2.1, JVMS 2.3.1), and what its operators give (JVMS 6.5).
use Rattle.std.specs.Prelude.{ℕ, ℤ}
use Rattle.sl_num.specs.Width.{signed, unsigned, IsWrappedTo, shift_distance, value}
use Rattle.sl_num.specs.declared.int_op.IntOp.{IntOp}

-- the number from -2^31 to 2^31 - 1 that differs from x by a multiple of 2^32
abbrev pub signed32 : ℤ → ℤ
signed32 x = signed 32 x

-- r is an Int, and differs from x by a multiple of 2^32
abbrev pub IsWrapped : ℤ → ℤ → Type 0
IsWrapped x r = IsWrappedTo 32 x r

-- the number from 0 to 2^32 - 1 that differs from x by a multiple of 2^32, whose binary digits are the bits of x
abbrev pub unsigned32 : ℤ → ℕ
unsigned32 x = unsigned 32 x

-- the number that the five low-order bits of b make, from 0 to 31
abbrev pub shift_count : ℤ → ℕ
shift_count b = shift_distance 32 b

-- `a OP b`
abbrev pub int : IntOp → ℤ → ℤ → ℤ
int op a b = value 32 op a b
