-- What values hold, and how much room they take (JVMS 2.6.1, 2.6.2, 2.11.1).
use Rattle.std.specs.Prelude.{ℕ, ℤ, pos, ◌+◌, ◌&&◌, Bool, true, false, nat_eq, List, [], ◌∷◌, Option, Some, None}
use Rattle.std.specs.Ordering.{int_eq}
use Rattle.vm_state.specs.declared.value.Value.{Value}
use Rattle.vm_state.specs.declared.value.Value.TheVariants.{Int, Long, Null, Ref, Text, BoxInt, BoxLong, BoxBool, BoxUnit, Latch, Evaluating, NullValue}
use Rattle.cf_link.specs.declared.value_kind.ValueKind.{ValueKind}
use Rattle.cf_link.specs.declared.value_kind.ValueKind.TheVariants as kind

-- how many units of depth a value takes, or local variables: its category (JVMS 2.6.1, 2.6.2, 2.11.1)
abbrev pub width : Value → ℕ
width (Long n) = 2
width _ = 1

-- how many units of depth operands take
abbrev pub depth : List Value → ℕ
depth [] = 0
depth (v ∷ vs) = depth vs + width v

-- how many units of depth, or local variables, a value of a kind takes
abbrev pub kind_width : ValueKind → ℕ
kind_width kind.Long = 2
kind_width _ = 1

-- the number of an Int
abbrev pub as_int : Value → Option ℤ
as_int (Int n) = Some n
as_int _ = None

-- the number of a Long
abbrev pub as_long : Value → Option ℤ
as_long (Long n) = Some n
as_long _ = None

-- the kind is that of Ints
abbrev pub is_int : ValueKind → Bool
is_int kind.Int = true
is_int _ = false

-- the kind is that of Longs
abbrev pub is_long : ValueKind → Bool
is_long kind.Long = true
is_long _ = false

-- the kind is that of references
abbrev pub is_ref : ValueKind → Bool
is_ref kind.Reference = true
is_ref _ = false

-- the value is of the kind: an Int, a Long, or what stands for a reference
abbrev pub is_kind : ValueKind → Value → Bool
is_kind k (Int n) = is_int k
is_kind k (Long n) = is_long k
is_kind k _ = is_ref k

-- the value is null
abbrev pub is_null : Value → Bool
is_null Null = true
is_null _ = false

-- the value is a text
abbrev pub is_text : Value → Bool
is_text (Text at) = true
is_text _ = false

-- which variant a value is
abbrev pub tag : Value → ℕ
tag (Int n) = 0
tag (Long n) = 1
tag Null = 2
tag (Ref at class) = 3
tag (Text at) = 4
tag (BoxInt n) = 5
tag (BoxLong n) = 6
tag (BoxBool b) = 7
tag BoxUnit = 8
tag (Latch at owner) = 9
tag (Evaluating thread) = 10
tag NullValue = 11

-- what tells a value from others of its variant
abbrev pub content : Value → ℤ
content (Int n) = n
content (Long n) = n
content (Ref at class) = pos at
content (Text at) = pos at
content (BoxInt n) = n
content (BoxLong n) = n
content (BoxBool true) = pos 1
content (Latch at owner) = pos at
content (Evaluating thread) = pos thread
content _ = pos 0

-- the two are one object, or boxes or control values of one content
abbrev pub is_same : Value → Value → Bool
is_same v w = nat_eq (tag v) (tag w) && int_eq (content v) (content w)
