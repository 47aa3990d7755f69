-- The heap: new objects and texts, and what exceptions the machine makes (JVMS 2.3, 2.4, 2.10).
use Rattle.std.specs.Prelude.{ℕ, pos, ◌==◌, if◌then◌else◌, nat_eq, List, [], ◌∷◌, ◌++◌, length, map, Option, codes, option_and_then, slice_get, slice_set}
use Rattle.std.specs.List.{list_any}
use Rattle.cf_link.specs.declared.linked.Linked.{Linked}
use Rattle.cf_link.specs.declared.value_kind.ValueKind.{ValueKind}
use Rattle.cf_link.specs.declared.value_kind.ValueKind.TheVariants as kind
use Rattle.cf_link.specs.declared.built_in.TheConstants.{ARITHMETIC_EXCEPTION}
use Rattle.cf_link.specs.Classes.{slots_of}
use Rattle.vm_state.specs.declared.value.Value.{Value}
use Rattle.vm_state.specs.declared.value.Value.TheVariants as value
use Rattle.vm_state.specs.declared.heap.Heap.{Heap}
use Rattle.vm_state.specs.declared.heap.Object.{Object}
use Rattle.vm_state.specs.declared.heap.Init.{Init}

-- what a field or static holds at first
abbrev pub default : ValueKind → Value
default kind.Int = value.Int (pos 0)
default kind.Long = value.Long (pos 0)
default kind.Reference = value.Null

-- a new object of a class
abbrev pub blank : Linked → ℕ → Object
blank k class = record { class = class; fields = map (λ slot. default slot.kind) (slots_of k.classes class) }

-- the heap with one more object, behind the others
abbrev pub with_object : Heap → Object → Heap
with_object h o = record h { objects = h.objects ++ o ∷ [] }

-- the heap with one more text, behind the others
abbrev pub with_text : Heap → List ℕ → Heap
with_text h text = record h { texts = h.texts ++ text ∷ [] }

-- the heap where the initialisation of a class has come so far
abbrev pub with_init : Heap → ℕ → Init → Heap
with_init h class init = record h { inits = slice_set h.inits class init }

-- the field n of the object with this number
abbrev pub field_at : Heap → ℕ → ℕ → Option Value
field_at h at n = option_and_then (λ o. slice_get o.fields n) (slice_get h.objects at)

-- an object with this value in its field n
abbrev pub with_field : Object → ℕ → Value → Object
with_field o n v = record o { fields = slice_set o.fields n v }

-- the heap with this value in the field n of the object with this number
abbrev pub set_field : Heap → ℕ → Object → ℕ → Value → Heap
set_field h at o n v = record h { objects = slice_set h.objects at (with_field o n v) }

-- the static field n of a class
abbrev pub static_at : Heap → ℕ → ℕ → Option Value
static_at h class n = option_and_then (λ statics. slice_get statics n) (slice_get h.statics class)

-- the heap with this value in the static field n of a class, whose statics are these
abbrev pub set_static : Heap → ℕ → List Value → ℕ → Value → Heap
set_static h class statics n v = record h { statics = slice_set h.statics class (slice_set statics n v) }

-- the exception of a class that the machine makes: the next object
abbrev pub thrown_value : Heap → ℕ → Value
thrown_value h class = value.Ref (length h.objects) class

-- the heap with an exception of this class that has no message
abbrev pub without_message : Linked → Heap → ℕ → Heap
without_message k h class = with_object h (blank k class)

-- the heap with an exception of this class whose message is this text
abbrev pub with_message : Linked → Heap → ℕ → List ℕ → Heap
with_message k h class text =
    with_object (with_text h text) (with_field (blank k class) 0 (value.Text (length h.texts)))

-- the heap with the exception that the machine makes; only an ArithmeticException has a message
abbrev pub with_exception : Linked → Heap → ℕ → Heap
with_exception k h class =
    if nat_eq class ARITHMETIC_EXCEPTION then with_message k h class (codes "/ by zero") else without_message k h class

-- ---- names of classes in texts: without folder and without a `$` at the end (`/` is 47, `$` is 36)

-- what stands behind the last `/`
abbrev pub last_part : List ℕ → List ℕ
last_part [] = []
last_part (c ∷ cs) = if list_any (λ d. d == 47) (c ∷ cs) then last_part cs else c ∷ cs

-- a name without a `$` at its end
abbrev pub without_dollar : List ℕ → List ℕ
without_dollar [] = []
without_dollar (c ∷ []) = if c == 36 then [] else c ∷ []
without_dollar (c ∷ d ∷ cs) = c ∷ without_dollar (d ∷ cs)

-- the name of a class as texts have it
abbrev pub simple_name : List ℕ → List ℕ
simple_name name = without_dollar (last_part name)
