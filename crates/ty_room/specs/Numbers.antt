-- What a form takes in a class file without its parts, at most: bytes of code (JVMS 6.5, 4.9.1) and entries of a constant
-- pool (JVMS 4.4). Code is what is needed wherever the form may stand: a local is loaded by four bytes, a constant by
-- three, a jump takes three. The table of forms stands in Sizing.
use Rattle.std.specs.Prelude.{ℕ, ◌+◌, nat_eq, nat_le, true, false, if◌then◌else◌}
use Rattle.ty_prog.specs.declared.prim_op.PrimOp.{PrimOp}
use Rattle.ty_prog.specs.declared.prim_op.PrimOp.TheVariants as op
use Rattle.ty_prog.specs.declared.ty.Ty.{Ty}
use Rattle.ty_prog.specs.declared.ty.Ty.TheVariants as ty
use Rattle.ty_room.specs.declared.ahead.Ahead.{Ahead}
use Rattle.ty_room.specs.declared.numbers.Numbers.{Numbers}

-- bytes and entries of a form whose parts aren't operands; as a test its value and a jump
abbrev pub form : ℕ → ℕ → Numbers
form bytes entries = record { bytes = bytes; jump = bytes + 3; entries = entries; supers = 0; keeps = false; more = 0 }

-- an operation, whose parts are operands: each is kept in a local while a `try` in another runs
abbrev pub operation : ℕ → ℕ → Numbers
operation bytes entries =
    record { bytes = bytes; jump = bytes + 3; entries = entries; supers = 0; keeps = true; more = 0 }

-- an operation that jumps by itself
abbrev pub deciding : ℕ → ℕ → Numbers
deciding bytes jump = record { bytes = bytes; jump = jump; entries = 0; supers = 0; keeps = true; more = 0 }

-- an operation with an operand that is no part: the new object, or the object of a call by `super`
abbrev pub making : ℕ → ℕ → ℕ → Numbers
making bytes entries supers =
    record { bytes = bytes; jump = bytes + 3; entries = entries; supers = supers; keeps = true; more = 8 }

-- an operator: arithmetic by an instruction, comparisons by jumps, the others by calls; an operand alone isn't kept
abbrev pub operator_numbers : PrimOp → Numbers
operator_numbers op.Less = deciding 9 4
operator_numbers op.AtMost = deciding 9 4
operator_numbers op.Greater = deciding 9 4
operator_numbers op.AtLeast = deciding 9 4
operator_numbers op.Same = deciding 8 3
operator_numbers op.Not = form 2 0
operator_numbers op.Concat = operation 3 0
operator_numbers op.Length = form 3 0
operator_numbers op.IsEmpty = form 3 0
operator_numbers op.Equals = operation 3 0
operator_numbers op.ToString = form 3 0
operator_numbers op.ClassName = form 3 0
operator_numbers op.Evaluating = form 3 0
operator_numbers op.NullValue = form 3 0
operator_numbers other = operation 1 0

-- a conversion by its type: to AnyRef there is nothing to do, since only a reference is converted to it; to Int a box of a
-- Long is told from one of an Int before either is opened
abbrev pub convert_bytes : Ty → ℕ
convert_bytes ty.Int = 17
convert_bytes ty.Any = 4
convert_bytes ty.AnyRef = 0
convert_bytes ty.Unit = 5
convert_bytes other = 3

-- a local: the first one is loaded by one byte (JVMS 6.5, `aload_0` and its kin); but until the lowering of traits it may
-- become the second, since the object of a trait's method comes in front
abbrev pub local_bytes : Ahead → ℕ → ℕ
local_bytes ahead local = if ahead.traits then 4 else (if nat_eq local 0 then 1 else 4)

-- what it takes to keep operands, by eight bytes each: one alone stays where it is; of two the first is kept, and the second
-- comes behind it by two bytes at most (JVMS 6.5, `swap`, `dup_x2` and their kin)
abbrev pub kept_bytes : ℕ → ℕ
kept_bytes all = if nat_le all 8 then 0 else (if nat_eq all 16 then 10 else all)

-- the read of a field, which the lowering of traits may make a call
abbrev pub get_numbers : Ahead → Numbers
get_numbers ahead = if ahead.traits then operation 6 4 else operation 3 3

-- the write of a field, which that may make a call too
abbrev pub put_numbers : Ahead → Numbers
put_numbers ahead = if ahead.traits then operation 6 4 else operation 4 3

-- to keep an object of a case class under its own type, so that its parts are read from there
abbrev pub MADE_BYTES : ℕ
MADE_BYTES = 14

-- a case, without its pattern, guard and body
abbrev pub CASE_BYTES : ℕ
CASE_BYTES = 3

-- a handler; one with cases throws again what none of them matches
abbrev pub handler_bytes : Ahead → ℕ
handler_bytes ahead = if ahead.matches then 13 else 7

-- a `finally`, whose code stands once: the value or the exception is kept, and a flag tells which
abbrev pub FINALLY_BYTES : ℕ
FINALLY_BYTES = 38
