use Rattle.std.proofs.Common.{FitsSigned}
use Rattle.std.specs.Int.{w64}
use Rattle.sl_num.proofs.Widths.{read64}
use Rattle.sl_num.proofs.Operators.{wrapping_add-signed, wrapping_sub-signed, wrapping_mul-signed, and-signed, or-signed, xor-signed, shl-left_shift, shr-unsigned_right_shift}
use Rattle.sl_num.proofs.long_arithmetic.long.Goals as goal

pub returns-in-Add : goal.returns-in-Add
returns-in-Add c = rw c.in-Add.is (wrapping_add-signed w64 read64 _ _ c.ranges.a c.ranges.b)

pub returns-in-Sub : goal.returns-in-Sub
returns-in-Sub c = rw c.in-Sub.is (wrapping_sub-signed w64 read64 _ _ c.ranges.a c.ranges.b)

pub returns-in-Mul : goal.returns-in-Mul
returns-in-Mul c = rw c.in-Mul.is (wrapping_mul-signed w64 read64 _ _ c.ranges.a c.ranges.b)

pub returns-in-And : goal.returns-in-And
returns-in-And c = rw c.in-And.is (and-signed w64 read64 _ _ c.ranges.a c.ranges.b)

pub returns-in-Or : goal.returns-in-Or
returns-in-Or c = rw c.in-Or.is (or-signed w64 read64 _ _ c.ranges.a c.ranges.b)

pub returns-in-Xor : goal.returns-in-Xor
returns-in-Xor c = rw c.in-Xor.is (xor-signed w64 read64 _ _ c.ranges.a c.ranges.b)

pub returns-in-Shl : goal.returns-in-Shl
returns-in-Shl c =
    rw c.in-Shl.is (shl-left_shift w64 read64 _ _ _ c.ranges.a c.ranges.b c.shift_count.ensures.value c.shift_count.ensures.below)

pub returns-in-Ushr : goal.returns-in-Ushr
returns-in-Ushr c =
    let fits : FitsSigned w64 c.cast_signed.result = record { sfits = c.cast_signed.type_inv } in
    rw c.in-Ushr.is (shr-unsigned_right_shift w64 read64 _ _ _ _ _ c.ranges.a c.ranges.b fits
    c.cast_unsigned.ensures c.shift_count-in-Ushr.ensures.value c.cast_signed.ensures)
