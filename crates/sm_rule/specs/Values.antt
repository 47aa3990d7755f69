-- What is told of values alone: identity, equality of numbers and texts, operators, texts (SLS 6.12, 12.1, 12.2).
use Rattle.std.specs.Prelude.{ℕ, ◌+◌, ℤ, pos, Bool, true, false, not, ◌&&◌, ◌||◌, if◌then◌else◌, nat_eq, nat_lt, List, [], ◌∷◌, ◌++◌, codes, Option, Some, None, option_map, int_lt, int_le}
use Rattle.std.specs.Ordering.{int_eq}
use Rattle.std.specs.Str.{bytes_eq}
use Rattle.std.specs.Fmt.{signed_decimal}
use Rattle.sl_num.specs.declared.int_op.IntOp.{IntOp}
use Rattle.sl_num.specs.declared.int_op.IntOp.TheVariants as num
use Rattle.sl_num.specs.Int.{int}
use Rattle.sl_num.specs.Long.{long}
use Rattle.sl_num.specs.Division.{int_quotient, long_quotient, remainder}
use Rattle.ty_prog.specs.declared.prim_op.PrimOp.{PrimOp}
use Rattle.ty_prog.specs.declared.prim_op.PrimOp.TheVariants as op
use Rattle.sm_state.specs.declared.value.Value.{Value}
use Rattle.sm_state.specs.declared.value.Value.TheVariants as value
use Rattle.sm_rule.specs.declared.act.Act.TheVariants as act
use Rattle.sm_rule.specs.declared.moves.Move.{Move}
use Rattle.sm_rule.specs.declared.moves.Move.TheVariants as move

-- two Booleans that are equal
abbrev pub alike : Bool → Bool → Bool
alike true b = b
alike false b = not b

-- one and the same: objects and latches by identity, other values by what they are
abbrev pub same : Value → Value → Bool
same value.Unit value.Unit = true
same (value.Bool a) (value.Bool b) = alike a b
same (value.Int a) (value.Int b) = int_eq a b
same (value.Long a) (value.Long b) = int_eq a b
same (value.Text a) (value.Text b) = bytes_eq a b
same value.Null value.Null = true
same (value.Ref a) (value.Ref b) = nat_eq a b
same (value.Latch a x) (value.Latch b y) = nat_eq a b
same (value.Evaluating t) (value.Evaluating u) = nat_eq t u
same value.NullValue value.NullValue = true
same _ _ = false

-- `==` of a value that is no object: Int and Long by number
abbrev pub equal : Value → Value → Bool
equal (value.Int a) (value.Long b) = int_eq a b
equal (value.Long a) (value.Int b) = int_eq a b
equal a b = same a b

-- the text of a value that is no object
abbrev pub plain_text : Value → List ℕ
plain_text value.Unit = codes "()"
plain_text (value.Bool true) = codes "true"
plain_text (value.Bool false) = codes "false"
plain_text (value.Int n) = signed_decimal n
plain_text (value.Long n) = signed_decimal n
plain_text (value.Text t) = t
plain_text value.Null = codes "null"
plain_text other = codes "Object"

-- how many UTF-16 units a text has: a character past U+FFFF has two
abbrev pub units : List ℕ → ℕ
units [] = 0
units (c ∷ cs) = (if nat_lt c 65536 then 1 else 2) + units cs

-- a node gives a Boolean
abbrev pub truth : Bool → Move
truth b = move.End (value.Bool b)

-- NullPointerException
abbrev pub null_pointer : Move
null_pointer = move.Fail 6 value.Null

-- a division by zero (JVMS 6.5, idiv)
abbrev pub divided : ℤ → Value → Move
divided b v = if int_eq b (pos 0) then move.Fail 5 (value.Text (codes "/ by zero")) else move.End v

-- an operator on two Ints (SLS 12.2)
abbrev pub int_computed : PrimOp → ℤ → ℤ → Move
int_computed op.Add a b = move.End (value.Int (int num.Add a b))
int_computed op.Sub a b = move.End (value.Int (int num.Sub a b))
int_computed op.Mul a b = move.End (value.Int (int num.Mul a b))
int_computed op.Div a b = divided b (value.Int (int_quotient a b))
int_computed op.Rem a b = divided b (value.Int (remainder a b))
int_computed op.And a b = move.End (value.Int (int num.And a b))
int_computed op.Or a b = move.End (value.Int (int num.Or a b))
int_computed op.Xor a b = move.End (value.Int (int num.Xor a b))
int_computed op.Shl a b = move.End (value.Int (int num.Shl a b))
int_computed op.Shr a b = move.End (value.Int (int num.Shr a b))
int_computed op.Ushr a b = move.End (value.Int (int num.Ushr a b))
int_computed op.Less a b = truth (int_lt a b)
int_computed op.AtMost a b = truth (int_le a b)
int_computed op.Greater a b = truth (int_lt b a)
int_computed op.AtLeast a b = truth (int_le b a)
int_computed other a b = move.Stuck

-- an operator on two Longs (SLS 12.2)
abbrev pub long_computed : PrimOp → ℤ → ℤ → Move
long_computed op.Add a b = move.End (value.Long (long num.Add a b))
long_computed op.Sub a b = move.End (value.Long (long num.Sub a b))
long_computed op.Mul a b = move.End (value.Long (long num.Mul a b))
long_computed op.Div a b = divided b (value.Long (long_quotient a b))
long_computed op.Rem a b = divided b (value.Long (remainder a b))
long_computed op.And a b = move.End (value.Long (long num.And a b))
long_computed op.Or a b = move.End (value.Long (long num.Or a b))
long_computed op.Xor a b = move.End (value.Long (long num.Xor a b))
long_computed op.Less a b = truth (int_lt a b)
long_computed op.AtMost a b = truth (int_le a b)
long_computed op.Greater a b = truth (int_lt b a)
long_computed op.AtLeast a b = truth (int_le b a)
long_computed other a b = move.Stuck

-- a Long shifted by an Int
abbrev pub long_shifted : PrimOp → ℤ → ℤ → Move
long_shifted op.Shl a b = move.End (value.Long (long num.Shl a b))
long_shifted op.Shr a b = move.End (value.Long (long num.Shr a b))
long_shifted op.Ushr a b = move.End (value.Long (long num.Ushr a b))
long_shifted other a b = move.Stuck

-- an operator on two Booleans
abbrev pub bool_computed : PrimOp → Bool → Bool → Move
bool_computed op.And a b = truth (a && b)
bool_computed op.Or a b = truth (a || b)
bool_computed op.Xor a b = truth (not (alike a b))
bool_computed other a b = move.Stuck

-- two texts joined, of at most 1,000,000 UTF-16 units
abbrev pub joined : List ℕ → List ℕ → Move
joined a b = if nat_lt 1000000 (units a + units b) then move.Fail 17 value.Null else move.End (value.Text (a ++ b))

-- texts joined; null is none
abbrev pub concatenated : Value → Value → Move
concatenated (value.Text a) (value.Text b) = joined a b
concatenated value.Null b = null_pointer
concatenated (value.Text a) value.Null = null_pointer
concatenated _ _ = move.Stuck

-- an operator on two values of the types that it takes
abbrev pub values_computed : PrimOp → Value → Value → Move
values_computed o (value.Int a) (value.Int b) = int_computed o a b
values_computed o (value.Long a) (value.Long b) = long_computed o a b
values_computed o (value.Long a) (value.Int b) = long_shifted o a b
values_computed o (value.Bool a) (value.Bool b) = bool_computed o a b
values_computed o _ _ = move.Stuck

-- an operator on two operands; references are compared, and `equals` is called
abbrev pub two_computed : PrimOp → Value → Value → Move
two_computed op.Same a b = truth (same a b)
two_computed op.Equals a b = move.Do (act.CallEquals a b)
two_computed op.Concat a b = concatenated a b
two_computed o a b = values_computed o a b

-- a text without characters
abbrev pub is_empty : List ℕ → Bool
is_empty [] = true
is_empty other = false

-- an operator on one operand
abbrev pub one_computed : PrimOp → Value → Move
one_computed op.Not (value.Bool a) = truth (not a)
one_computed op.Length (value.Text t) = move.End (value.Int (pos (units t)))
one_computed op.Length value.Null = null_pointer
one_computed op.IsEmpty (value.Text t) = truth (is_empty t)
one_computed op.IsEmpty value.Null = null_pointer
one_computed op.ToString a = move.Do (act.CallToString a)
one_computed op.ClassName a = move.Do (act.NameClass a)
one_computed _ _ = move.Stuck

-- an operator on its last operand and those before it, the latest first
abbrev pub computed : PrimOp → Value → List Value → Move
computed o v [] = one_computed o v
computed o v (a ∷ []) = two_computed o a v
computed o v other = move.Stuck
