-- Instructions on fields, statics, new objects and texts, and the initialisation of classes (JVMS 5.5, 6.5).
use Rattle.std.specs.Prelude.{◌≡◌, ℕ, ℤ, Bool, false, not, if◌then◌else◌, nat_eq, nat_lt, List, [], ◌∷◌, length, Option, Some, None, slice_get}
use Rattle.std.specs.Str.{bytes_eq}
use Rattle.cf_form.specs.declared.code.Code.{Code}
use Rattle.cf_link.specs.declared.linked.Linked.{Linked}
use Rattle.cf_link.specs.declared.linked_class.LinkedClass.{LinkedClass}
use Rattle.cf_link.specs.declared.member.LinkedField.{LinkedField}
use Rattle.cf_link.specs.declared.member.Slot.{Slot}
use Rattle.cf_link.specs.declared.reference.LinkedRef.{LinkedRef}
use Rattle.cf_link.specs.declared.reference.LinkedRef.TheVariants as ref
use Rattle.cf_link.specs.declared.built_in.TheConstants.{NULL_POINTER_EXCEPTION, NO_CLASS_DEF_FOUND_ERROR}
use Rattle.cf_link.specs.Classes.{slots_of, statics_of}
use Rattle.vm_state.specs.declared.value.Value.{Value}
use Rattle.vm_state.specs.declared.value.Value.TheVariants as value
use Rattle.vm_state.specs.declared.frame.Frame.{Frame}
use Rattle.vm_state.specs.declared.heap.Heap.{Heap}
use Rattle.vm_state.specs.declared.heap.Object.{Object}
use Rattle.vm_state.specs.declared.heap.Init.{Init}
use Rattle.vm_state.specs.declared.heap.Init.TheVariants as init
use Rattle.vm_state.specs.declared.outcomes.Readiness.{Readiness}
use Rattle.vm_state.specs.declared.outcomes.Readiness.TheVariants.{Usable, Fresh, Busy, Failed, Lacks, Begins}
use Rattle.vm_state.specs.declared.outcomes.Effect.{Effect}
use Rattle.vm_state.specs.declared.outcomes.Effect.TheVariants as effect
use Rattle.vm_state.specs.declared.outcomes.HeapEffect.{HeapEffect}
use Rattle.vm_state.specs.declared.outcomes.HeapEffect.TheVariants.{Done, Waits, Stuck, Fail, Initialise, Memory}
use Rattle.vm_state.specs.declared.outcomes.StuckKind.TheVariants.{Stack, WrongKind, NoMethod}
use Rattle.vm_state.specs.Values.{is_kind}
use Rattle.vm_state.specs.Instructions.{After, next, pushed, branches}
use Rattle.vm_state.specs.Methods.{code_of}
use Rattle.vm_state.specs.Heaps.{blank, with_object, with_init, field_at, set_field, static_at, set_static}

-- what an instruction does beside, and the heap and the frame after it
pub record Shared : Type 0 where
  pub effect : HeapEffect
  pub heap : Heap
  pub frame : Frame

-- the code did this, or lacked memory; an instruction that can't be made changes nothing
abbrev pub Shares : Shared → HeapEffect → Heap → Heap → Frame → Frame → Type 0
Shares a Memory h h' f f' = (h' ≡ h) × (f' ≡ f)
Shares a Waits h h' f f' = (Waits ≡ a.effect) × (h' ≡ h) × (f' ≡ f)
Shares a (Stuck kind) h h' f f' = (Stuck kind ≡ a.effect) × (h' ≡ h) × (f' ≡ f)
Shares a e h h' f f' = (e ≡ a.effect) × (h' ≡ a.heap) × (f' ≡ a.frame)

-- the instruction is made or can't be made, and does nothing else
abbrev pub IsPlain : HeapEffect → Type 0
IsPlain Done = Unit {0}
IsPlain (Stuck kind) = Unit {0}
IsPlain Memory = Unit {0}
IsPlain _ = ⊥

-- heap and frame as they were
abbrev pub rests : Heap → Frame → HeapEffect → Shared
rests h f e = record { effect = e; heap = h; frame = f }

-- the frame goes on as g, with the heap h', where it fits; else both stay as they were
abbrev pub goes_by : Heap → Heap → Frame → Frame → Effect → Shared
goes_by h h' f g effect.Done = record { effect = Done; heap = h'; frame = g }
goes_by h h' f g (effect.Stuck kind) = rests h f (Stuck kind)
goes_by h h' f g _ = rests h f (Stuck WrongKind)

-- the same, by what the instruction does to its frame
abbrev pub goes_on : Heap → Heap → Frame → After → Shared
goes_on h h' f a = goes_by h h' f a.frame a.effect

-- ---- fields

-- this value, where there is one, is pushed on these operands
abbrev pub got : Heap → Frame → List Value → Option Value → Shared
got h f vs None = rests h f (Stuck WrongKind)
got h f vs (Some v) = goes_on h h f (pushed f vs v)

-- whether a slot is that of a field of a class
abbrev pub is_slot_of : ℕ → Option Slot → Bool
is_slot_of class None = false
is_slot_of class (Some slot) = nat_eq slot.class class

-- whether objects of a class have the field n of another: their slot n is that field's
abbrev pub has_field : Linked → ℕ → ℕ → ℕ → Bool
has_field k of class n = is_slot_of class (slice_get (slots_of k.classes of) n)

-- a field of an object that has it; on null an exception is made
abbrev pub gets_field : Linked → Heap → Frame → ℕ → ℕ → Value → List Value → Shared
gets_field k h f class n (value.Ref at of) vs =
    if has_field k of class n then got h f vs (field_at h at n) else rests h f (Stuck WrongKind)
gets_field k h f class n value.Null vs = rests h f (Fail NULL_POINTER_EXCEPTION)
gets_field k h f class n _ vs = rests h f (Stuck WrongKind)

-- getfield of what its reference resolves to, on an object
abbrev pub field_named : Linked → Heap → Frame → Option LinkedRef → Value → List Value → Shared
field_named k h f (Some (ref.Field class n)) v vs = gets_field k h f class n v vs
field_named k h f (Some _) v vs = rests h f (Stuck WrongKind)
field_named k h f None v vs = rests h f (Stuck WrongKind)

-- getfield on the top operand (JVMS 6.5)
abbrev pub get_field : Linked → Heap → Frame → Option LinkedRef → List Value → Shared
get_field k h f r [] = rests h f (Stuck Stack)
get_field k h f r (v ∷ vs) = field_named k h f r v vs

-- the value is of the kind of the field
abbrev pub fits_slot : Option Slot → Value → Bool
fits_slot None v = false
fits_slot (Some slot) v = is_kind slot.kind v

-- the field n of an object, where it is there, gets this value
abbrev pub written : Heap → Frame → ℕ → ℕ → Value → List Value → Option Object → Shared
written h f at n v vs None = rests h f (Stuck WrongKind)
written h f at n v vs (Some o) =
    if nat_lt n (length o.fields)
    then record { effect = Done; heap = set_field h at o n v; frame = (next f vs).frame }
    else rests h f (Stuck WrongKind)

-- the same, on an object that has the field; on null an exception is made
abbrev pub puts_field : Linked → Heap → Frame → ℕ → ℕ → Value → Value → List Value → Shared
puts_field k h f class n v (value.Ref at of) vs =
    if has_field k of class n then written h f at n v vs (slice_get h.objects at) else rests h f (Stuck WrongKind)
puts_field k h f class n v value.Null vs = rests h f (Fail NULL_POINTER_EXCEPTION)
puts_field k h f class n v _ vs = rests h f (Stuck WrongKind)

-- putfield of what its reference resolves to, on an object, with a value of the field's kind
abbrev pub field_put : Linked → Heap → Frame → Option LinkedRef → Value → Value → List Value → Shared
field_put k h f (Some (ref.Field class n)) v o vs =
    if fits_slot (slice_get (slots_of k.classes class) n) v
    then puts_field k h f class n v o vs
    else rests h f (Stuck WrongKind)
field_put k h f (Some _) v o vs = rests h f (Stuck WrongKind)
field_put k h f None v o vs = rests h f (Stuck WrongKind)

-- putfield of the top operand on the one below it (JVMS 6.5)
abbrev pub put_field : Linked → Heap → Frame → Option LinkedRef → List Value → Shared
put_field k h f r (v ∷ o ∷ vs) = field_put k h f r v o vs
put_field k h f r _ = rests h f (Stuck Stack)

-- ---- statics of a class that needs no more initialisation, and new objects

-- the static field n of a class is pushed
abbrev pub get_static : Heap → Frame → ℕ → ℕ → Shared
get_static h f class n = got h f f.stack.values (static_at h class n)

-- the value is of the kind of the static field
abbrev pub fits_static : Option LinkedField → Value → Bool
fits_static None v = false
fits_static (Some field) v = is_kind field.kind v

-- the static field n gets this value, where it is among the statics of its class
abbrev pub static_written : Heap → Frame → ℕ → ℕ → Value → List Value → Option (List Value) → Shared
static_written h f class n v vs None = rests h f (Stuck WrongKind)
static_written h f class n v vs (Some statics) =
    if nat_lt n (length statics)
    then record { effect = Done; heap = set_static h class statics n v; frame = (next f vs).frame }
    else rests h f (Stuck WrongKind)

-- the static field n of a class gets the top operand
abbrev pub put_static : Linked → Heap → Frame → ℕ → ℕ → List Value → Shared
put_static k h f class n [] = rests h f (Stuck Stack)
put_static k h f class n (v ∷ vs) =
    if fits_static (slice_get (statics_of k.classes class) n) v
    then static_written h f class n v vs (slice_get h.statics class)
    else rests h f (Stuck WrongKind)

-- a new object of a class is pushed
abbrev pub make : Linked → Heap → Frame → ℕ → Shared
make k h f class =
    goes_on h (with_object h (blank k class)) f (pushed f f.stack.values (value.Ref (length h.objects) class))

-- ---- the class that an instruction needs (JVMS 5.5)

-- an initialiser that has code is entered
abbrev pub enters : ℕ → ℕ → Option Code → Readiness
enters class method None = Lacks NoMethod
enters class method (Some code) = Begins (record { class = class; method = method })

-- a class without an initialiser is ready within the step
abbrev pub begins : Linked → ℕ → Option ℕ → Readiness
begins k class None = Fresh
begins k class (Some method) = enters class method (code_of k class method)

-- how far a thread finds a class that isn't initialised yet
abbrev pub begun : Linked → ℕ → Option LinkedClass → Readiness
begun k class None = Lacks WrongKind
begun k class (Some c) = begins k class c.initialiser

-- how far a thread finds a class initialised
abbrev pub readiness : Linked → ℕ → ℕ → Option Init → Readiness
readiness k thread class None = Lacks WrongKind
readiness k thread class (Some init.NotYet) = begun k class (slice_get k.classes class)
readiness k thread class (Some (init.Running other)) = if nat_eq other thread then Usable else Busy
readiness k thread class (Some init.Ready) = Usable
readiness k thread class (Some init.Bad) = Failed

-- an instruction goes on where its class may be used
abbrev pub by_readiness : Heap → Frame → ℕ → ℕ → (Heap → Shared) → Readiness → Shared
by_readiness h f thread class go Usable = go h
by_readiness h f thread class go Fresh = go (with_init h class init.Ready)
by_readiness h f thread class go Busy = rests h f Waits
by_readiness h f thread class go Failed = rests h f (Fail NO_CLASS_DEF_FOUND_ERROR)
by_readiness h f thread class go (Lacks kind) = rests h f (Stuck kind)
by_readiness h f thread class go (Begins target) =
    record { effect = Initialise target; heap = with_init h class (init.Running thread); frame = f }

-- what is done once the class is initialised, or the step of its initialisation that comes first (JVMS 5.5)
abbrev pub needing : Linked → Heap → Frame → ℕ → ℕ → (Heap → Shared) → Shared
needing k h f thread class go = by_readiness h f thread class go (readiness k thread class (slice_get h.inits class))

-- ---- texts

-- two texts that are there have the same characters
abbrev pub same_text : Option (List ℕ) → Option (List ℕ) → Bool
same_text (Some a) (Some b) = bytes_eq a b
same_text _ _ = false

-- two values are texts of the same characters
abbrev pub same_texts : Heap → Value → Value → Bool
same_texts h (value.Text a) (value.Text b) = same_text (slice_get h.texts a) (slice_get h.texts b)
same_texts h _ _ = false

-- a jump where the top two operands, texts, are the same, or aren't
abbrev pub if_same_texts : Heap → Frame → Bool → ℤ → List Value → Shared
if_same_texts h f wanted a (w ∷ v ∷ vs) =
    goes_on h h f (branches f vs a (if wanted then same_texts h v w else not (same_texts h v w)))
if_same_texts h f wanted a _ = rests h f (Stuck Stack)
