-- Built-in methods: each is one step, on the operands from the last argument on (docs/CLASSFILES.md, "Linked sets").
use Rattle.std.specs.Prelude.{ℕ, ℤ, pos, ◌+◌, ◌-◌, ◌&&◌, ◌||◌, not, Bool, true, false, if◌then◌else◌, nat_eq, nat_lt, List, [], ◌∷◌, ◌++◌, length, Option, Some, None, option_map, slice_get, slice_set, codes, encode_utf8_all}
use Rattle.std.specs.List.{position_from}
use Rattle.std.specs.Option.{option_or, unwrap_or}
use Rattle.std.specs.Ordering.{int_eq}
use Rattle.std.specs.Str.{bytes_eq}
use Rattle.std.specs.Fmt.{signed_decimal}
use Rattle.ty_prog.specs.declared.event.Event.{Event}
use Rattle.ty_prog.specs.declared.event.Event.TheVariants as event
use Rattle.cf_link.specs.declared.linked.Linked.{Linked}
use Rattle.cf_link.specs.declared.linked_class.LinkedClass.{LinkedClass}
use Rattle.cf_link.specs.declared.member.LinkedField.{LinkedField}
use Rattle.cf_link.specs.declared.native.Native.{Native}
use Rattle.cf_link.specs.declared.native.Native.TheVariants as native
use Rattle.cf_link.specs.declared.built_in.TheConstants.{RUNNABLE, THREAD, THROWABLE, NULL_POINTER_EXCEPTION, CLASS_CAST_EXCEPTION, ILLEGAL_THREAD_STATE_EXCEPTION, OUT_OF_MEMORY_ERROR}
use Rattle.cf_link.specs.Classes.{chain_of, conforms}
use Rattle.cf_link.specs.Selection.{chosen_at}
use Rattle.cf_form.specs.declared.code.Code.{Code}
use Rattle.vm_state.specs.declared.value.Value.{Value}
use Rattle.vm_state.specs.declared.value.Value.TheVariants as value
use Rattle.vm_state.specs.declared.frame.Frame.{Frame}
use Rattle.vm_state.specs.declared.target.Target.{Target}
use Rattle.vm_state.specs.declared.heap.Heap.{Heap}
use Rattle.vm_state.specs.declared.heap.Object.{Object}
use Rattle.vm_state.specs.declared.outcomes.HeapEffect.TheVariants.{Done, Waits, Stuck, Fail}
use Rattle.vm_state.specs.declared.outcomes.StuckKind.{StuckKind}
use Rattle.vm_state.specs.declared.outcomes.StuckKind.TheVariants.{Stack, LocalOut, WrongKind, NoMethod}
use Rattle.vm_state.specs.Values.{is_null, is_text, is_same}
use Rattle.vm_state.specs.Instructions.{next, pushed}
use Rattle.vm_state.specs.Methods.{code_of, class_of}
use Rattle.vm_state.specs.Local.{truth, frame_of}
use Rattle.vm_state.specs.Heaps.{with_text, field_at, set_field, simple_name}
use Rattle.vm_state.specs.Shared.{Shared, rests, goes_on, written, same_texts}

-- ---- what a method leaves

-- a result in the place of the operands
abbrev pub gives : Heap → Frame → List Value → Value → Shared
gives h f vs v = goes_on h h f (pushed f vs v)

-- a result, with this heap
abbrev pub gives_with : Heap → Heap → Frame → List Value → Value → Shared
gives_with h h' f vs v = goes_on h h' f (pushed f vs v)

-- no result, with this heap
abbrev pub ends : Heap → Frame → List Value → Shared
ends h f vs = record { effect = Done; heap = h; frame = (next f vs).frame }

-- a new text as the result
abbrev pub gives_text : Heap → Frame → List Value → List ℕ → Shared
gives_text h f vs text = gives_with h (with_text h text) f vs (value.Text (length h.texts))

-- an operand isn't of its kind
abbrev pub wrong : Heap → Frame → Shared
wrong h f = rests h f (Stuck WrongKind)

-- there are too few operands
abbrev pub few : Heap → Frame → Shared
few h f = rests h f (Stuck Stack)

-- a NullPointerException is made
abbrev pub on_null : Heap → Frame → Shared
on_null h f = rests h f (Fail NULL_POINTER_EXCEPTION)

-- a ClassCastException is made
abbrev pub miscast : Heap → Frame → Shared
miscast h f = rests h f (Fail CLASS_CAST_EXCEPTION)

-- ---- texts of values

-- the name of a class as texts have it
abbrev pub class_text : Linked → ℕ → List ℕ
class_text k class = unwrap_or (option_map (λ c. simple_name c.name) (slice_get k.classes class)) []

-- the text of a truth value
abbrev pub truth_text : Bool → List ℕ
truth_text true = codes "true"
truth_text false = codes "false"

-- the text of a value that is no text: of a box its content, else the name of the class
abbrev pub text_of : Linked → Value → List ℕ
text_of k (value.BoxInt n) = signed_decimal n
text_of k (value.BoxLong n) = signed_decimal n
text_of k (value.BoxBool b) = truth_text b
text_of k value.BoxUnit = codes "()"
text_of k v = class_text k (class_of v)

-- the value is a box
abbrev pub is_box : Value → Bool
is_box (value.BoxInt n) = true
is_box (value.BoxLong n) = true
is_box (value.BoxBool b) = true
is_box value.BoxUnit = true
is_box v = false

-- how many UTF-16 units a text has: a character past U+FFFF has two
abbrev pub code_units : List ℕ → ℕ
code_units [] = 0
code_units (c ∷ cs) = (if nat_lt c 65536 then 1 else 2) + code_units cs

-- ---- java/lang/Object

-- the number in a box
abbrev pub number_in : Value → Option ℤ
number_in (value.BoxInt n) = Some n
number_in (value.BoxLong n) = Some n
number_in v = None

-- both are numbers, and the same one
abbrev pub same_numbers : Option ℤ → Option ℤ → Bool
same_numbers (Some a) (Some b) = int_eq a b
same_numbers _ _ = false

-- one and the same, or texts of the same characters
abbrev pub identical : Heap → Value → Value → Bool
identical h v w = same_texts h v w || is_same v w

-- boxed numbers are compared by number
abbrev pub equal : Heap → Value → Value → Bool
equal h v w = same_numbers (number_in v) (number_in w) || identical h v w

-- `Object.<init>`: nothing is done
abbrev pub object_init : Heap → Frame → List Value → Shared
object_init h f [] = few h f
object_init h f (v ∷ vs) = ends h f vs

-- `equals`: whether the two are equal
abbrev pub object_equals : Heap → Frame → List Value → Shared
object_equals h f (w ∷ v ∷ vs) = gives h f vs (truth (equal h v w))
object_equals h f _ = few h f

-- a text is its own text
abbrev pub told : Linked → Heap → Frame → List Value → Value → Shared
told k h f vs (value.Text at) = gives h f vs (value.Text at)
told k h f vs v = gives_text h f vs (text_of k v)

-- `toString` of any value
abbrev pub object_to_string : Linked → Heap → Frame → List Value → Shared
object_to_string k h f [] = few h f
object_to_string k h f (v ∷ vs) = told k h f vs v

-- ---- java/lang/String

-- the length of a text that is there
abbrev pub measured : Heap → Frame → List Value → Option (List ℕ) → Shared
measured h f vs None = wrong h f
measured h f vs (Some text) = gives h f vs (value.Int (pos (code_units text)))

-- `length`: how many UTF-16 units a text has
abbrev pub string_length : Heap → Frame → List Value → Shared
string_length h f (value.Text at ∷ vs) = measured h f vs (slice_get h.texts at)
string_length h f (v ∷ vs) = wrong h f
string_length h f [] = few h f

-- a text has no character
abbrev pub is_empty : List ℕ → Bool
is_empty [] = true
is_empty (c ∷ cs) = false

-- whether a text that is there is empty
abbrev pub emptied : Heap → Frame → List Value → Option (List ℕ) → Shared
emptied h f vs None = wrong h f
emptied h f vs (Some text) = gives h f vs (truth (is_empty text))

-- `isEmpty` of a text
abbrev pub string_is_empty : Heap → Frame → List Value → Shared
string_is_empty h f (value.Text at ∷ vs) = emptied h f vs (slice_get h.texts at)
string_is_empty h f (v ∷ vs) = wrong h f
string_is_empty h f [] = few h f

-- ---- objects of built-in classes: the fields of a Throwable begin with its message, those of a Thread with its target and
-- whether it was started

-- an object of a class, or of one below it
abbrev pub is_object_of : Linked → ℕ → Value → Bool
is_object_of k class (value.Ref at of) = conforms k.classes of class
is_object_of k class v = false

-- a field of an object of this class is set
abbrev pub sets_of : Linked → Heap → Frame → ℕ → ℕ → Value → Value → List Value → Shared
sets_of k h f class n v (value.Ref at of) vs =
    if conforms k.classes of class then written h f at n v vs (slice_get h.objects at) else wrong h f
sets_of k h f class n v o vs = wrong h f

-- a field that is there as the result
abbrev pub holds_at : Heap → Frame → List Value → Option Value → Shared
holds_at h f vs None = wrong h f
holds_at h f vs (Some v) = gives h f vs v

-- `Throwable.<init>` without a message
abbrev pub throwable_init : Linked → Heap → Frame → List Value → Shared
throwable_init k h f [] = few h f
throwable_init k h f (v ∷ vs) = if is_object_of k THROWABLE v then ends h f vs else wrong h f

-- `Throwable.<init>` with a message, which may be null
abbrev pub throwable_init_text : Linked → Heap → Frame → List Value → Shared
throwable_init_text k h f (m ∷ v ∷ vs) =
    if is_null m || is_text m then sets_of k h f THROWABLE 0 m v vs else wrong h f
throwable_init_text k h f _ = few h f

-- `getMessage`: the message, or null
abbrev pub get_message : Linked → Heap → Frame → List Value → Shared
get_message k h f (value.Ref at of ∷ vs) =
    if conforms k.classes of THROWABLE then holds_at h f vs (field_at h at 0) else wrong h f
get_message k h f (v ∷ vs) = wrong h f
get_message k h f [] = few h f

-- the message of an exception, if it has one
abbrev pub message_in : Heap → Option Value → Option (List ℕ)
message_in h (Some (value.Text at)) = slice_get h.texts at
message_in h v = None

-- two texts joined; a text has at most 1,000,000 UTF-16 units
abbrev pub joined_text : List ℕ → List ℕ → Option (List ℕ)
joined_text a b = if nat_lt 1000000 (code_units a + code_units b) then None else Some (a ++ b)

-- a new text as the result, or an exception where it would be too long
abbrev pub gives_or_fails : Heap → Frame → List Value → Option (List ℕ) → Shared
gives_or_fails h f vs None = rests h f (Fail OUT_OF_MEMORY_ERROR)
gives_or_fails h f vs (Some text) = gives_text h f vs text

-- the name of the class, and where there is a message `: ` and the message
abbrev pub throwable_text : Linked → ℕ → Option (List ℕ) → Option (List ℕ)
throwable_text k of None = Some (class_text k of)
throwable_text k of (Some message) = joined_text (class_text k of ++ codes ": ") message

-- `toString` of a Throwable
abbrev pub throwable_to_string : Linked → Heap → Frame → List Value → Shared
throwable_to_string k h f (value.Ref at of ∷ vs) =
    if conforms k.classes of THROWABLE
    then gives_or_fails h f vs (throwable_text k of (message_in h (field_at h at 0)))
    else wrong h f
throwable_to_string k h f (v ∷ vs) = wrong h f
throwable_to_string k h f [] = few h f

-- `Thread.<init>` with a target
abbrev pub thread_init : Linked → Heap → Frame → List Value → Shared
thread_init k h f (target ∷ v ∷ vs) = sets_of k h f THREAD 0 target v vs
thread_init k h f _ = few h f

-- ---- threads: `start` makes the next thread, which runs `run()V` of its target, and ends at once where that is null

-- the heap with one more thread, which begins with these frames
abbrev pub with_thread : Heap → List Frame → Heap
with_thread h fs = record h { born = h.born ++ Some (record { number = length h.born + 1; frames = fs; thrown = None }) ∷ [] }

-- what a new thread begins with, or why it can't
pub data Run : Type 0 where
  Begins : (frames : List Frame) → Run
  Cannot : (kind : StuckKind) → Run

-- what a new thread begins with: the selected method, which has this code, on its target
abbrev pub run_with : Value → Target → Option Code → Run
run_with v target None = Cannot NoMethod
run_with v target (Some code) =
    if nat_lt 0 code.max_locals then Begins (frame_of target code (v ∷ []) ∷ []) else Cannot LocalOut

-- the same, by the selected method, where there is one
abbrev pub run_at : Linked → Value → Option (ℕ × ℕ) → Run
run_at k v None = Cannot NoMethod
run_at k v (Some found) = run_with v (record { class = found.0; method = found.1 }) (code_of k found.0 found.1)

-- method 0 of Runnable is `run()V`
abbrev pub run_of : Linked → Value → Run
run_of k value.Null = Begins []
run_of k v = run_at k v (chosen_at k.classes (class_of v) RUNNABLE 0)

-- a thread is made that runs this, where it can
abbrev pub begins : Heap → Heap → Frame → List Value → Run → Shared
begins h h' f vs (Begins fs) = ends (with_thread h' fs) f vs
begins h h' f vs (Cannot kind) = rests h f (Stuck kind)

-- a thread is made that runs this target, where there is one
abbrev pub begins_thread : Linked → Heap → Heap → Frame → List Value → Option Value → Shared
begins_thread k h h' f vs None = wrong h f
begins_thread k h h' f vs (Some v) = begins h h' f vs (run_of k v)

-- the value is the Int 0
abbrev pub is_unset : Value → Bool
is_unset (value.Int n) = int_eq n (pos 0)
is_unset v = false

-- a thread that was started isn't started again
abbrev pub starts_once : Linked → Heap → Frame → ℕ → List Value → Object → Option Value → Shared
starts_once k h f at vs o None = wrong h f
starts_once k h f at vs o (Some started) =
    if is_unset started
    then begins_thread k h (set_field h at o 1 (value.Int (pos 1))) f vs (slice_get o.fields 0)
    else rests h f (Fail ILLEGAL_THREAD_STATE_EXCEPTION)

-- `start` of an object that is there
abbrev pub starts_object : Linked → Heap → Frame → ℕ → List Value → Option Object → Shared
starts_object k h f at vs None = wrong h f
starts_object k h f at vs (Some o) = starts_once k h f at vs o (slice_get o.fields 1)

-- `start` of a Thread
abbrev pub thread_start : Linked → Heap → Frame → List Value → Shared
thread_start k h f (value.Ref at of ∷ vs) =
    if conforms k.classes of THREAD then starts_object k h f at vs (slice_get h.objects at) else wrong h f
thread_start k h f (v ∷ vs) = wrong h f
thread_start k h f [] = few h f

-- ---- lazyrt/Cells: latches

-- the heap with one more latch, which is closed
abbrev pub with_latch : Heap → Heap
with_latch h = record h { opened = h.opened ++ false ∷ [] }

-- the heap with this latch open
abbrev pub with_open : Heap → ℕ → Heap
with_open h at = record h { opened = slice_set h.opened at true }

-- a new closed latch names the thread of an `Evaluating`
abbrev pub latch : Heap → Frame → List Value → Shared
latch h f (value.Evaluating owner ∷ vs) =
    gives_with h (with_latch h) f vs (value.Latch (length h.opened) owner)
latch h f (v ∷ vs) = miscast h f
latch h f [] = few h f

-- a latch that is there is opened
abbrev pub opens : Heap → Frame → List Value → ℕ → Option Bool → Shared
opens h f vs at None = wrong h f
opens h f vs at (Some is_open) = ends (with_open h at) f vs

-- `countDown`: the latch is opened
abbrev pub count_down : Heap → Frame → List Value → Shared
count_down h f (value.Latch at owner ∷ vs) = opens h f vs at (slice_get h.opened at)
count_down h f (value.Null ∷ vs) = on_null h f
count_down h f (v ∷ vs) = wrong h f
count_down h f [] = few h f

-- only an open latch lets a thread go on
abbrev pub awaits : Heap → Frame → List Value → Option Bool → Shared
awaits h f vs None = wrong h f
awaits h f vs (Some true) = ends h f vs
awaits h f vs (Some false) = rests h f Waits

-- `await`: the thread waits while the latch is closed
abbrev pub await : Heap → Frame → List Value → Shared
await h f (value.Latch at owner ∷ vs) = awaits h f vs (slice_get h.opened at)
await h f (value.Null ∷ vs) = on_null h f
await h f (v ∷ vs) = wrong h f
await h f [] = few h f

-- a control value or latch names this thread
abbrev pub names_thread : ℕ → Value → Bool
names_thread thread (value.Evaluating owner) = nat_eq owner thread
names_thread thread (value.Latch at owner) = nat_eq owner thread
names_thread thread v = false

-- `ownedHere`: whether the value names the thread that asks
abbrev pub owned_here : Heap → Frame → ℕ → List Value → Shared
owned_here h f thread [] = few h f
owned_here h f thread (v ∷ vs) = gives h f vs (truth (names_thread thread v))

-- ---- lazyrt/Cells: cas

-- a text names a field of class C and of descriptor Object by `C.f`
abbrev pub names_field : List ℕ → LinkedClass → LinkedField → Bool
names_field text c field =
    bytes_eq (encode_utf8_all text) (encode_utf8_all c.name ++ (codes "." ++ encode_utf8_all field.name))
    && bytes_eq field.descriptor (codes "Ljava/lang/Object;")

-- the slot of the field that a class declares by this name
abbrev pub slot_in : List ℕ → Option LinkedClass → Option ℕ
slot_in text None = None
slot_in text (Some c) = option_map (λ i. (length c.slots - length c.fields) + i) (position_from (names_field text c) 0 c.fields)

-- the slot of the field of this name in a class or one above it
abbrev pub slot_among : Linked → List ℕ → List ℕ → Option ℕ
slot_among k text [] = None
slot_among k text (class ∷ chain) = option_or (slot_in text (slice_get k.classes class)) (slot_among k text chain)

-- the field n of an object gets the new value where it holds the expected one; the result tells whether
abbrev pub exchanged : Heap → Frame → List Value → ℕ → ℕ → Value → Value → Object → Option Value → Shared
exchanged h f vs at n expected new o None = wrong h f
exchanged h f vs at n expected new o (Some v) =
    if identical h v expected
    then gives_with h (set_field h at o n new) f vs (truth true)
    else gives h f vs (truth false)

-- the same, where object and field are there
abbrev pub exchanged_at : Heap → Frame → List Value → ℕ → Value → Value → Option Object → Option ℕ → Shared
exchanged_at h f vs at expected new None n = wrong h f
exchanged_at h f vs at expected new (Some o) None = wrong h f
exchanged_at h f vs at expected new (Some o) (Some n) = exchanged h f vs at n expected new o (slice_get o.fields n)

-- the same, of the field that a text names
abbrev pub exchanged_named : Linked → Heap → Frame → List Value → ℕ → ℕ → Value → Value → Option (List ℕ) → Shared
exchanged_named k h f vs at of expected new None = wrong h f
exchanged_named k h f vs at of expected new (Some text) =
    exchanged_at h f vs at expected new (slice_get h.objects at) (slot_among k text (chain_of k.classes of))

-- the same, of an object and a text; on null an exception is made
abbrev pub exchanges : Linked → Heap → Frame → List Value → Value → Value → Value → Value → Shared
exchanges k h f vs (value.Ref at of) (value.Text name) expected new =
    exchanged_named k h f vs at of expected new (slice_get h.texts name)
exchanges k h f vs value.Null (value.Text name) expected new = on_null h f
exchanges k h f vs o name expected new = wrong h f

-- `cas`: an object, the name of a field, the expected value and the new one
abbrev pub cas : Linked → Heap → Frame → List Value → Shared
cas k h f (new ∷ expected ∷ name ∷ o ∷ vs) = exchanges k h f vs o name expected new
cas k h f _ = few h f

-- ---- lazyrt/Cells: boxes

-- `boxInt`
abbrev pub box_int : Heap → Frame → List Value → Shared
box_int h f (value.Int n ∷ vs) = gives h f vs (value.BoxInt n)
box_int h f (v ∷ vs) = wrong h f
box_int h f [] = few h f

-- `boxLong`
abbrev pub box_long : Heap → Frame → List Value → Shared
box_long h f (value.Long n ∷ vs) = gives h f vs (value.BoxLong n)
box_long h f (v ∷ vs) = wrong h f
box_long h f [] = few h f

-- `boxBoolean`: 0 is false, all else true
abbrev pub box_boolean : Heap → Frame → List Value → Shared
box_boolean h f (value.Int n ∷ vs) = gives h f vs (value.BoxBool (not (int_eq n (pos 0))))
box_boolean h f (v ∷ vs) = wrong h f
box_boolean h f [] = few h f

-- `unboxInt`: null holds 0
abbrev pub unbox_int : Heap → Frame → List Value → Shared
unbox_int h f (value.BoxInt n ∷ vs) = gives h f vs (value.Int n)
unbox_int h f (value.Null ∷ vs) = gives h f vs (value.Int (pos 0))
unbox_int h f (v ∷ vs) = miscast h f
unbox_int h f [] = few h f

-- `unboxLong`: null holds 0
abbrev pub unbox_long : Heap → Frame → List Value → Shared
unbox_long h f (value.BoxLong n ∷ vs) = gives h f vs (value.Long n)
unbox_long h f (value.Null ∷ vs) = gives h f vs (value.Long (pos 0))
unbox_long h f (v ∷ vs) = miscast h f
unbox_long h f [] = few h f

-- `unboxBoolean`: null holds false
abbrev pub unbox_boolean : Heap → Frame → List Value → Shared
unbox_boolean h f (value.BoxBool b ∷ vs) = gives h f vs (truth b)
unbox_boolean h f (value.Null ∷ vs) = gives h f vs (truth false)
unbox_boolean h f (v ∷ vs) = miscast h f
unbox_boolean h f [] = few h f

-- ---- lazyrt/Cells: texts

-- `text`: the text of null, a text or a box
abbrev pub text : Linked → Heap → Frame → List Value → Shared
text k h f (value.Null ∷ vs) = gives_text h f vs (codes "null")
text k h f (v ∷ vs) = if is_text v || is_box v then told k h f vs v else miscast h f
text k h f [] = few h f

-- two texts that are there, joined
abbrev pub joined : Heap → Frame → List Value → Option (List ℕ) → Option (List ℕ) → Shared
joined h f vs (Some a) (Some b) = gives_or_fails h f vs (joined_text a b)
joined h f vs a b = wrong h f

-- the value is null or a text
abbrev pub may_be_text : Value → Bool
may_be_text v = is_null v || is_text v

-- two texts joined; on null an exception is made
abbrev pub concats : Heap → Frame → List Value → Value → Value → Shared
concats h f vs (value.Text a) (value.Text b) = joined h f vs (slice_get h.texts a) (slice_get h.texts b)
concats h f vs v w = if may_be_text v && may_be_text w then on_null h f else wrong h f

-- `concat` of the top two operands
abbrev pub concat : Heap → Frame → List Value → Shared
concat h f (w ∷ v ∷ vs) = concats h f vs v w
concat h f _ = few h f

-- `kindOf`: the name of the class of a value, or `null`
abbrev pub kind_of : Linked → Heap → Frame → List Value → Shared
kind_of k h f (value.Null ∷ vs) = gives_text h f vs (codes "null")
kind_of k h f (v ∷ vs) = gives_text h f vs (class_text k (class_of v))
kind_of k h f [] = few h f

-- the heap with one more event in the trace
abbrev pub with_event : Heap → Event → Heap
with_event h e = record h { trace = h.trace ++ e ∷ [] }

-- a line of a text that is there
abbrev pub printed : Heap → Frame → ℕ → List Value → Option (List ℕ) → Shared
printed h f thread vs None = wrong h f
printed h f thread vs (Some text) = ends (with_event h (event.Line thread text)) f vs

-- `println`: a line of the text
abbrev pub println : Heap → Frame → ℕ → List Value → Shared
println h f thread (value.Text at ∷ vs) = printed h f thread vs (slice_get h.texts at)
println h f thread (value.Null ∷ vs) = on_null h f
println h f thread (v ∷ vs) = wrong h f
println h f thread [] = few h f

-- ---- a line for each

-- what a built-in method does
abbrev pub natively : Linked → Heap → Frame → ℕ → Native → Shared
natively k h f thread native.ObjectInit = object_init h f f.stack.values
natively k h f thread native.ObjectEquals = object_equals h f f.stack.values
natively k h f thread native.ObjectToString = object_to_string k h f f.stack.values
natively k h f thread native.StringLength = string_length h f f.stack.values
natively k h f thread native.StringIsEmpty = string_is_empty h f f.stack.values
natively k h f thread native.ThreadInit = thread_init k h f f.stack.values
natively k h f thread native.ThreadStart = thread_start k h f f.stack.values
natively k h f thread native.ThrowableInit = throwable_init k h f f.stack.values
natively k h f thread native.ThrowableInitText = throwable_init_text k h f f.stack.values
natively k h f thread native.ThrowableGetMessage = get_message k h f f.stack.values
natively k h f thread native.ThrowableToString = throwable_to_string k h f f.stack.values
natively k h f thread native.Cas = cas k h f f.stack.values
natively k h f thread native.Latch = latch h f f.stack.values
natively k h f thread native.CountDown = count_down h f f.stack.values
natively k h f thread native.Await = await h f f.stack.values
natively k h f thread native.OwnedHere = owned_here h f thread f.stack.values
natively k h f thread native.Evaluating = gives h f f.stack.values (value.Evaluating thread)
natively k h f thread native.NullValue = gives h f f.stack.values value.NullValue
natively k h f thread native.BoxInt = box_int h f f.stack.values
natively k h f thread native.BoxLong = box_long h f f.stack.values
natively k h f thread native.BoxBoolean = box_boolean h f f.stack.values
natively k h f thread native.BoxUnit = gives h f f.stack.values value.BoxUnit
natively k h f thread native.UnboxInt = unbox_int h f f.stack.values
natively k h f thread native.UnboxLong = unbox_long h f f.stack.values
natively k h f thread native.UnboxBoolean = unbox_boolean h f f.stack.values
natively k h f thread native.Text = text k h f f.stack.values
natively k h f thread native.Concat = concat h f f.stack.values
natively k h f thread native.KindOf = kind_of k h f f.stack.values
natively k h f thread native.Println = println h f thread f.stack.values
