-- What an instruction that looks at its own frame alone does to it (JVMS 6.5).
use Rattle.std.specs.Prelude.{◌≡◌, ℕ, ℤ, pos, negsuc, ◌+◌, ◌&&◌, ◌||◌, not, Bool, true, false, if◌then◌else◌, nat_eq, nat_le, int_lt, List, [], ◌∷◌, ◌++◌, length, take, drop, Option, Some, None, slice_get, slice_set}
use Rattle.std.specs.Ordering.{int_eq}
use Rattle.sl_num.specs.declared.int_op.IntOp.{IntOp}
use Rattle.sl_num.specs.declared.int_op.IntOp.TheVariants.{Add, Sub}
use Rattle.sl_num.specs.Int.{int, signed32}
use Rattle.sl_num.specs.Long.{long}
use Rattle.sl_num.specs.Division.{int_quotient, long_quotient, remainder}
use Rattle.cf_link.specs.declared.value_kind.ValueKind.{ValueKind}
use Rattle.cf_link.specs.declared.value_kind.ValueKind.TheVariants as kind
use Rattle.vm_state.specs.declared.value.Value.{Value}
use Rattle.vm_state.specs.declared.value.Value.TheVariants as value
use Rattle.vm_state.specs.declared.frame.Frame.{Frame}
use Rattle.vm_state.specs.declared.action.Comparison.{Comparison}
use Rattle.vm_state.specs.declared.action.Comparison.TheVariants as compare
use Rattle.vm_state.specs.declared.action.Division.{Division}
use Rattle.vm_state.specs.declared.action.Division.TheVariants.{Quotient, Remainder}
use Rattle.vm_state.specs.declared.outcomes.StuckKind.TheVariants.{Stack, LocalOut, WrongKind, PcOut}
use Rattle.vm_state.specs.declared.outcomes.Effect.{Effect}
use Rattle.vm_state.specs.declared.outcomes.Effect.TheVariants.{Done, AtHeap, Stuck}
use Rattle.vm_state.specs.Values.{width, depth, kind_width, as_int, as_long, is_kind, is_null, is_text, is_same}

-- what an instruction does beside, and the frame after it
pub record After : Type 0 where
  pub effect : Effect
  pub frame : Frame

-- an instruction that is done keeps the frame's method, and every other keeps the frame
abbrev pub IsKept : Effect → Frame → Frame → Type 0
IsKept Done old new = (new.class ≡ old.class) × (new.method ≡ old.method)
IsKept other old new = new ≡ old

-- the code did this
abbrev pub Does : After → Effect → Frame → Frame → Type 0
Does a e old new = (e ≡ a.effect) × (new ≡ a.frame) × IsKept e old new

-- the frame as it was
abbrev pub same : Frame → Effect → After
same f e = record { effect = e; frame = f }

-- the next instruction, with these operands
abbrev pub next : Frame → List Value → After
next f vs = record { effect = Done; frame = record f { pc = f.pc + 1; stack = record { values = vs; room = f.stack.room } } }

-- the next instruction, with one more on these operands, where there is room
abbrev pub pushed : Frame → List Value → Value → After
pushed f vs v = if nat_le (depth vs + width v) f.stack.room then next f (v ∷ vs) else same f (Stuck Stack)

-- an operand as the number of a local, a pool entry or an instruction; None where it is negative
abbrev pub as_index : ℤ → Option ℕ
as_index (pos n) = Some n
as_index (negsuc n) = None

-- ---- locals

-- a load of one local variable, which holds this
abbrev pub loaded : ValueKind → Frame → Option Value → After
loaded k f None = same f (Stuck LocalOut)
loaded k f (Some v) = if is_kind k v then pushed f f.stack.values v else same f (Stuck WrongKind)

-- a load of a Long, which stands at the first of its two local variables, while the second holds Null
abbrev pub long_loaded : Frame → Option Value → Option Value → After
long_loaded f None second = same f (Stuck LocalOut)
long_loaded f (Some v) None = same f (Stuck LocalOut)
long_loaded f (Some v) (Some w) =
    if is_kind kind.Long v && is_null w then pushed f f.stack.values v else same f (Stuck WrongKind)

-- a load of the local n (JVMS 6.5: iload, lload, aload)
abbrev pub load : ValueKind → Frame → ℕ → After
load kind.Long f n = long_loaded f (slice_get f.locals n) (slice_get f.locals (n + 1))
load k f n = loaded k f (slice_get f.locals n)

-- the locals with a value of this kind at the local n
abbrev pub with_local : ValueKind → List Value → ℕ → Value → List Value
with_local kind.Long locals n v = slice_set (slice_set locals n v) (n + 1) value.Null
with_local k locals n v = slice_set locals n v

-- the next instruction, with this value among the locals, and these operands
abbrev pub stored : ValueKind → Frame → ℕ → Value → List Value → After
stored k f n v vs = record {
  effect = Done;
  frame = record f { pc = f.pc + 1; locals = with_local k f.locals n v; stack = record { values = vs; room = f.stack.room } };
}

-- a store into the local n (JVMS 6.5: istore, lstore, astore)
abbrev pub store : ValueKind → Frame → ℕ → List Value → After
store k f n [] = same f (Stuck Stack)
store k f n (v ∷ vs) =
    if nat_le (n + kind_width k) (length f.locals)
    then (if is_kind k v then stored k f n v vs else same f (Stuck WrongKind))
    else same f (Stuck LocalOut)

-- iinc of the local n, which holds this
abbrev pub incremented : Frame → ℕ → ℤ → Option Value → After
incremented f n b None = same f (Stuck LocalOut)
incremented f n b (Some (value.Int x)) = record {
  effect = Done;
  frame = record f { pc = f.pc + 1; locals = slice_set f.locals n (value.Int (int Add x b)) };
}
incremented f n b (Some _) = same f (Stuck WrongKind)

-- what is done at a local, where the operand names one
abbrev pub at_local : (ℕ → After) → Frame → Option ℕ → After
at_local g f None = same f (Stuck LocalOut)
at_local g f (Some n) = g n

-- ---- operands moved about, by units of depth (JVMS 2.6.2): a Long is never halved

-- how many values the unit is that begins with this operand: one; None where it is half of a Long
abbrev pub one_unit : Option Value → Option ℕ
one_unit None = None
one_unit (Some v) = if is_kind kind.Long v then None else Some 1

-- one more, where there is a number
abbrev pub one_more : Option ℕ → Option ℕ
one_more None = None
one_more (Some n) = Some (n + 1)

-- how many values the two units are that begin with these operands: one Long or two others; None where half of a Long
abbrev pub two_units : Option Value → Option Value → Option ℕ
two_units None w = None
two_units (Some v) w = if is_kind kind.Long v then Some 1 else one_more (one_unit w)

-- how many values one unit or two are, from the operand with this number on; None where they are no whole values
abbrev pub whole : ℕ → List Value → ℕ → Option ℕ
whole n vs from =
    if nat_eq n 1
    then one_unit (slice_get vs from)
    else (if nat_eq n 2 then two_units (slice_get vs from) (slice_get vs (from + 1)) else Some 0)

-- so many values are taken off
abbrev pub popped : Frame → List Value → Option ℕ → After
popped f vs None = same f (Stuck WrongKind)
popped f vs (Some count) = next f (drop count vs)

-- pop or pop2: the top n units are taken off (JVMS 6.5)
abbrev pub pop : ℕ → Frame → List Value → After
pop n f vs = if nat_le n (depth vs) then popped f vs (whole n vs 0) else same f (Stuck Stack)

-- these operands with copies of the first of them, this many, below the first so many
abbrev pub with_copies : ℕ → ℕ → List Value → List Value
with_copies count under vs = take under vs ++ (take count vs ++ drop under vs)

-- copies of n units, so many values, go below more values
abbrev pub dupped_under : Frame → List Value → ℕ → ℕ → Option ℕ → After
dupped_under f vs n count None = same f (Stuck WrongKind)
dupped_under f vs n count (Some more) =
    if nat_le (depth vs + n) f.stack.room then next f (with_copies count (count + more) vs) else same f (Stuck Stack)

-- copies of n units, so many values, go below m units
abbrev pub dupped : Frame → List Value → ℕ → ℕ → Option ℕ → After
dupped f vs n m None = same f (Stuck WrongKind)
dupped f vs n m (Some count) = dupped_under f vs n count (whole m vs count)

-- the top n units are copied below the m under them
abbrev pub dup : ℕ → ℕ → Frame → List Value → After
dup n m f vs = if nat_le (n + m) (depth vs) then dupped f vs n m (whole n vs 0) else same f (Stuck Stack)

-- swap of two values, none of them a Long (JVMS 6.5)
abbrev pub swap : Frame → List Value → After
swap f (a ∷ b ∷ vs) =
    if is_kind kind.Long a || is_kind kind.Long b then same f (Stuck WrongKind) else next f (b ∷ a ∷ vs)
swap f _ = same f (Stuck Stack)

-- ---- arithmetic

-- the Int that an operation gives of two Ints
abbrev pub ints_give : IntOp → Frame → List Value → Option ℤ → Option ℤ → After
ints_give op f vs (Some a) (Some b) = next f (value.Int (int op a b) ∷ vs)
ints_give op f vs None b = same f (Stuck WrongKind)
ints_give op f vs (Some a) None = same f (Stuck WrongKind)

-- an operation on the top two Ints (JVMS 6.5: iadd, isub ..)
abbrev pub ints : IntOp → Frame → List Value → After
ints op f (b ∷ a ∷ vs) = ints_give op f vs (as_int a) (as_int b)
ints op f _ = same f (Stuck Stack)

-- the Long that an operation gives of two numbers
abbrev pub longs_give : IntOp → Frame → List Value → Option ℤ → Option ℤ → After
longs_give op f vs (Some a) (Some b) = next f (value.Long (long op a b) ∷ vs)
longs_give op f vs None b = same f (Stuck WrongKind)
longs_give op f vs (Some a) None = same f (Stuck WrongKind)

-- an operation on the top two Longs (JVMS 6.5: ladd, lsub ..)
abbrev pub longs : IntOp → Frame → List Value → After
longs op f (b ∷ a ∷ vs) = longs_give op f vs (as_long a) (as_long b)
longs op f _ = same f (Stuck Stack)

-- a shift of a Long by an Int (JVMS 6.5: lshl, lshr, lushr)
abbrev pub long_shift : IntOp → Frame → List Value → After
long_shift op f (b ∷ a ∷ vs) = longs_give op f vs (as_long a) (as_int b)
long_shift op f _ = same f (Stuck Stack)

-- a quotient or remainder of Ints; None where the divisor is 0
abbrev pub int_divided : Division → ℤ → ℤ → Option ℤ
int_divided Quotient a b = if int_eq b (pos 0) then None else Some (int_quotient a b)
int_divided Remainder a b = if int_eq b (pos 0) then None else Some (remainder a b)

-- a quotient or remainder of Longs; None where the divisor is 0
abbrev pub long_divided : Division → ℤ → ℤ → Option ℤ
long_divided Quotient a b = if int_eq b (pos 0) then None else Some (long_quotient a b)
long_divided Remainder a b = if int_eq b (pos 0) then None else Some (remainder a b)

-- the result of a division of Ints; by zero an exception is made
abbrev pub int_result : Frame → List Value → Option ℤ → After
int_result f vs None = same f AtHeap
int_result f vs (Some n) = next f (value.Int n ∷ vs)

-- the result of a division of Longs; by zero an exception is made
abbrev pub long_result : Frame → List Value → Option ℤ → After
long_result f vs None = same f AtHeap
long_result f vs (Some n) = next f (value.Long n ∷ vs)

-- a division of two Ints
abbrev pub int_divides : Division → Frame → List Value → Option ℤ → Option ℤ → After
int_divides d f vs (Some a) (Some b) = int_result f vs (int_divided d a b)
int_divides d f vs None b = same f (Stuck WrongKind)
int_divides d f vs (Some a) None = same f (Stuck WrongKind)

-- a division of the top two Ints (JVMS 6.5: idiv, irem)
abbrev pub int_divide : Division → Frame → List Value → After
int_divide d f (b ∷ a ∷ vs) = int_divides d f vs (as_int a) (as_int b)
int_divide d f _ = same f (Stuck Stack)

-- a division of two Longs
abbrev pub long_divides : Division → Frame → List Value → Option ℤ → Option ℤ → After
long_divides d f vs (Some a) (Some b) = long_result f vs (long_divided d a b)
long_divides d f vs None b = same f (Stuck WrongKind)
long_divides d f vs (Some a) None = same f (Stuck WrongKind)

-- a division of the top two Longs (JVMS 6.5: ldiv, lrem)
abbrev pub long_divide : Division → Frame → List Value → After
long_divide d f (b ∷ a ∷ vs) = long_divides d f vs (as_long a) (as_long b)
long_divide d f _ = same f (Stuck Stack)

-- the negative of an Int
abbrev pub int_negated : Frame → List Value → Option ℤ → After
int_negated f vs None = same f (Stuck WrongKind)
int_negated f vs (Some n) = next f (value.Int (int Sub (pos 0) n) ∷ vs)

-- ineg of the top operand (JVMS 6.5)
abbrev pub int_negate : Frame → List Value → After
int_negate f [] = same f (Stuck Stack)
int_negate f (v ∷ vs) = int_negated f vs (as_int v)

-- the negative of a Long
abbrev pub long_negated : Frame → List Value → Option ℤ → After
long_negated f vs None = same f (Stuck WrongKind)
long_negated f vs (Some n) = next f (value.Long (long Sub (pos 0) n) ∷ vs)

-- lneg of the top operand (JVMS 6.5)
abbrev pub long_negate : Frame → List Value → After
long_negate f [] = same f (Stuck Stack)
long_negate f (v ∷ vs) = long_negated f vs (as_long v)

-- an Int as a Long
abbrev pub widened : Frame → List Value → Option ℤ → After
widened f vs None = same f (Stuck WrongKind)
widened f vs (Some n) = pushed f vs (value.Long n)

-- i2l of the top operand (JVMS 6.5)
abbrev pub widen : Frame → List Value → After
widen f [] = same f (Stuck Stack)
widen f (v ∷ vs) = widened f vs (as_int v)

-- the low 32 bits of a Long as an Int
abbrev pub narrowed : Frame → List Value → Option ℤ → After
narrowed f vs None = same f (Stuck WrongKind)
narrowed f vs (Some n) = next f (value.Int (signed32 n) ∷ vs)

-- l2i of the top operand (JVMS 6.5)
abbrev pub narrow : Frame → List Value → After
narrow f [] = same f (Stuck Stack)
narrow f (v ∷ vs) = narrowed f vs (as_long v)

-- how two numbers compare: -1, 0 or 1
abbrev pub order_of : ℤ → ℤ → ℤ
order_of a b = if int_lt a b then negsuc 0 else (if int_lt b a then pos 1 else pos 0)

-- how two Longs compare, as an Int
abbrev pub longs_compared : Frame → List Value → Option ℤ → Option ℤ → After
longs_compared f vs (Some a) (Some b) = next f (value.Int (order_of a b) ∷ vs)
longs_compared f vs None b = same f (Stuck WrongKind)
longs_compared f vs (Some a) None = same f (Stuck WrongKind)

-- lcmp of the top two operands (JVMS 6.5)
abbrev pub compare_longs : Frame → List Value → After
compare_longs f (b ∷ a ∷ vs) = longs_compared f vs (as_long a) (as_long b)
compare_longs f _ = same f (Stuck Stack)

-- ---- jumps

-- whether a comparison holds of two numbers
abbrev pub holds : Comparison → ℤ → ℤ → Bool
holds compare.Equal a b = not (int_lt a b) && not (int_lt b a)
holds compare.NotEqual a b = int_lt a b || int_lt b a
holds compare.Less a b = int_lt a b
holds compare.AtLeast a b = not (int_lt a b)
holds compare.Greater a b = int_lt b a
holds compare.AtMost a b = not (int_lt b a)

-- the instruction of this number is next, with these operands
abbrev pub goes : Frame → List Value → Option ℕ → After
goes f vs None = same f (Stuck PcOut)
goes f vs (Some n) = record { effect = Done; frame = record f { pc = n; stack = record { values = vs; room = f.stack.room } } }

-- a jump to the instruction a where it is taken, else the next instruction
abbrev pub branches : Frame → List Value → ℤ → Bool → After
branches f vs a true = goes f vs (as_index a)
branches f vs a false = next f vs

-- a jump where an Int compares so with 0
abbrev pub zero_compared : Comparison → Frame → ℤ → List Value → Option ℤ → After
zero_compared c f a vs None = same f (Stuck WrongKind)
zero_compared c f a vs (Some x) = branches f vs a (holds c x (pos 0))

-- a jump where the top operand compares so with 0 (JVMS 6.5: ifeq, ifne ..)
abbrev pub if_zero : Comparison → Frame → ℤ → List Value → After
if_zero c f a [] = same f (Stuck Stack)
if_zero c f a (v ∷ vs) = zero_compared c f a vs (as_int v)

-- a jump where two Ints compare so
abbrev pub ints_compared : Comparison → Frame → ℤ → List Value → Option ℤ → Option ℤ → After
ints_compared c f a vs (Some x) (Some y) = branches f vs a (holds c x y)
ints_compared c f a vs None y = same f (Stuck WrongKind)
ints_compared c f a vs (Some x) None = same f (Stuck WrongKind)

-- a jump where the top two operands compare so (JVMS 6.5: if_icmpeq ..)
abbrev pub if_ints : Comparison → Frame → ℤ → List Value → After
if_ints c f a (y ∷ x ∷ vs) = ints_compared c f a vs (as_int x) (as_int y)
if_ints c f a _ = same f (Stuck Stack)

-- a jump where two references are the same, or aren't; two texts are compared on the heap
abbrev pub sames_compared : Bool → Frame → ℤ → List Value → Value → Value → After
sames_compared wanted f a vs v w =
    if is_text v && is_text w then same f AtHeap else branches f vs a (if wanted then is_same v w else not (is_same v w))

-- a jump where the top two operands are the same, or aren't (JVMS 6.5: if_acmpeq, if_acmpne)
abbrev pub if_same : Bool → Frame → ℤ → List Value → After
if_same wanted f a (w ∷ v ∷ vs) =
    if is_kind kind.Reference v && is_kind kind.Reference w then sames_compared wanted f a vs v w else same f (Stuck WrongKind)
if_same wanted f a _ = same f (Stuck Stack)

-- a jump where the top operand is null, or isn't (JVMS 6.5: ifnull, ifnonnull)
abbrev pub if_null : Bool → Frame → ℤ → List Value → After
if_null wanted f a [] = same f (Stuck Stack)
if_null wanted f a (v ∷ vs) =
    if is_kind kind.Reference v then branches f vs a (if wanted then is_null v else not (is_null v)) else same f (Stuck WrongKind)
