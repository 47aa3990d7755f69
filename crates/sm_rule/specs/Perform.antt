-- What comes of an act, by the heap and the program.
use Rattle.std.specs.Prelude.{ℕ, ℤ, ◌==◌, ◌||◌, Bool, true, false, if◌then◌else◌, List, [], ◌∷◌, codes, length, Option, Some, None, option_map, slice_get}
use Rattle.std.specs.Option.{option_and_then, option_or}
use Rattle.sl_num.specs.Int.{signed32}
use Rattle.ty_prog.specs.Find.{find, super_find}
use Rattle.ty_prog.specs.declared.class.Class.{Class}
use Rattle.ty_prog.specs.declared.event.Event.TheVariants as event
use Rattle.ty_prog.specs.declared.kind.Kind.{Kind}
use Rattle.ty_prog.specs.declared.kind.Kind.TheVariants as kind
use Rattle.ty_prog.specs.declared.method.Method.{Method}
use Rattle.ty_prog.specs.declared.program.Program.{Program}
use Rattle.ty_prog.specs.declared.tested.Tested.{Tested}
use Rattle.ty_prog.specs.declared.tested.Tested.TheVariants as tested
use Rattle.ty_prog.specs.declared.ty.Ty.{Ty}
use Rattle.ty_prog.specs.declared.ty.Ty.TheVariants as ty
use Rattle.sm_state.specs.Entering.{method_at}
use Rattle.sm_state.specs.Layout.{linear_of, field_number, cell_number, default_of, made}
use Rattle.sm_state.specs.declared.entry.Entry.{Entry}
use Rattle.sm_state.specs.declared.heap.Heap.{Heap}
use Rattle.sm_state.specs.declared.heap.Object.{Object}
use Rattle.sm_state.specs.declared.module.Module.{Module}
use Rattle.sm_state.specs.declared.module.Module.TheVariants as modules
use Rattle.sm_state.specs.declared.once.Once.{Once}
use Rattle.sm_state.specs.declared.once.Once.TheVariants as once
use Rattle.sm_state.specs.declared.part.Part.TheVariants as part
use Rattle.sm_state.specs.declared.value.Value.{Value}
use Rattle.sm_state.specs.declared.value.Value.TheVariants as value
use Rattle.sm_rule.specs.declared.act.Act.{Act}
use Rattle.sm_rule.specs.declared.act.Act.TheVariants as act
use Rattle.sm_rule.specs.declared.answer.Answer.{Answer}
use Rattle.sm_rule.specs.declared.answer.Answer.TheVariants as answer
use Rattle.sm_rule.specs.declared.answer.Edit.TheVariants as edit
use Rattle.sm_rule.specs.Values.{same, equal, plain_text}

-- a value, and no change
abbrev pub gives : Value → Answer
gives v = answer.Gives edit.Nothing v

-- an exception of this class, whose message is null
abbrev pub throws : ℕ → Answer
throws class = answer.Throws class value.Null

-- NullPointerException
abbrev pub on_null : Answer
on_null = throws 6

-- ClassCastException (JVMS 6.5, checkcast)
abbrev pub bad_cast : Answer
bad_cast = throws 7

-- ---- objects and their classes

-- what is done with the object of a reference
abbrev pub with_object : (ℕ → Object → Answer) → ℕ → Option Object → Answer
with_object f r None = answer.Wrong
with_object f r (Some o) = f r o

-- what is done with an object; null throws NullPointerException
abbrev pub of_object : Heap → Value → (ℕ → Object → Answer) → Answer
of_object h (value.Ref r) f = with_object f r (slice_get h.objects r)
of_object h value.Null f = on_null
of_object h other f = answer.Wrong

-- whether a class stands in a list
abbrev pub has : ℕ → List ℕ → Bool
has class [] = false
has class (c ∷ linear) = (c == class) || has class linear

-- whether an object is of a class or of one below it
abbrev pub instance_of : Program → ℕ → Option Object → Bool
instance_of p class None = false
instance_of p class (Some o) = has class (linear_of p.classes o.class)

-- the same by the reference of the object
abbrev pub is_instance : Program → Heap → ℕ → ℕ → Bool
is_instance p h class r = instance_of p class (slice_get h.objects r)

-- the name of a class
abbrev pub class_name : Program → ℕ → Option (List ℕ)
class_name p class = option_map (λ c. c.name) (slice_get p.classes class)

-- the name of the class of a value
abbrev pub name_of : Program → Heap → Value → Option (List ℕ)
name_of p h value.Unit = Some (codes "Unit")
name_of p h (value.Bool b) = Some (codes "Boolean")
name_of p h (value.Int n) = Some (codes "Integer")
name_of p h (value.Long n) = Some (codes "Long")
name_of p h (value.Text t) = Some (codes "String")
name_of p h value.Null = Some (codes "null")
name_of p h (value.Ref r) = option_and_then (λ o. class_name p o.class) (slice_get h.objects r)
name_of p h other = Some (codes "Object")

-- whether a value that isn't null is of a type
abbrev pub fits : Program → Heap → Ty → Value → Bool
fits p h ty.Any v = true
fits p h ty.AnyRef v = true
fits p h ty.Unit value.Unit = true
fits p h ty.Boolean (value.Bool b) = true
fits p h ty.Int (value.Int n) = true
fits p h ty.Long (value.Long n) = true
fits p h ty.Text (value.Text t) = true
fits p h (ty.Class class) (value.Ref r) = is_instance p h class r
fits p h type v = false

-- a value that is of a type, or ClassCastException
abbrev pub fitting : Program → Heap → Ty → Value → Answer
fitting p h type v = if fits p h type v then gives v else bad_cast

-- a value widened, boxed, unboxed or narrowed: from Long to Int it keeps the low 32 bits; null is kept, or becomes zero,
-- false or () (SLS 12.2, JVMS 6.5: i2l, l2i, checkcast)
abbrev pub converted : Program → Heap → Ty → Value → Answer
converted p h ty.Int (value.Long n) = gives (value.Int (signed32 n))
converted p h ty.Long (value.Int n) = gives (value.Long n)
converted p h type value.Null = gives (default_of type)
converted p h type v = fitting p h type v

-- whether a value passes a test; null passes none
abbrev pub passes : Program → Heap → Value → Tested → Bool
passes p h value.Null test = false
passes p h (value.Latch at owner) tested.Latch = true
passes p h (value.Evaluating t) tested.Evaluating = true
passes p h v (tested.OfType type) = fits p h type v
passes p h v other = false

-- ---- fields (JVMS 6.5: getfield, putfield)

-- the value that is found
abbrev pub value_or_wrong : Option Value → Answer
value_or_wrong None = answer.Wrong
value_or_wrong (Some v) = gives v

-- the value of a field of an object, by its number
abbrev pub read : Object → Option ℕ → Answer
read o None = answer.Wrong
read o (Some at) = value_or_wrong (slice_get o.fields at)

-- a value is stored into a field, by its number
abbrev pub written : ℕ → Value → Option ℕ → Answer
written r v None = answer.Wrong
written r v (Some at) = answer.Gives (edit.Field r at v) value.Unit

-- the new value is stored where the field holds the old one, in one move
abbrev pub exchanged_if : ℕ → ℕ → Value → Bool → Answer
exchanged_if r at new true = answer.Gives (edit.Field r at new) (value.Bool true)
exchanged_if r at new false = gives (value.Bool false)

-- the same by what the field holds
abbrev pub exchanged_at : ℕ → ℕ → Value → Value → Option Value → Answer
exchanged_at r at old new None = answer.Wrong
exchanged_at r at old new (Some v) = exchanged_if r at new (same old v)

-- the same of an object, by its number
abbrev pub exchanged : ℕ → Object → Value → Value → Option ℕ → Answer
exchanged r o old new None = answer.Wrong
exchanged r o old new (Some at) = exchanged_at r at old new (slice_get o.fields at)

-- ---- lazy members (SIP-20): a read of an empty cell claims it and enters its initialiser; one that another thread runs
-- is waited for; one that the reading thread runs throws LazyCycle

-- the entry of a cell's initialiser
abbrev pub init_entry : ℕ → ℕ → ℕ → Entry
init_entry class cell r = record { class = class; part = part.Init cell; this = value.Ref r; args = [] }

-- a read of a cell by thread t, by what the cell is
abbrev pub cell_read : ℕ → ℕ → ℕ → ℕ → ℕ → Option Once → Answer
cell_read t class cell r at (Some once.Empty) = answer.Enters (edit.Cell r at (once.Running t)) (init_entry class cell r)
cell_read t class cell r at (Some (once.Running u)) = if u == t then throws 18 else answer.Waits
cell_read t class cell r at (Some (once.Done v)) = gives v
cell_read t class cell r at None = answer.Wrong

-- the same of a cell of an object, by its number
abbrev pub cell_read_at : ℕ → ℕ → ℕ → ℕ → Object → Option ℕ → Answer
cell_read_at t class cell r o None = answer.Wrong
cell_read_at t class cell r o (Some at) = cell_read t class cell r at (slice_get o.cells at)

-- ---- object definitions (JVMS 5.5): a read initialises; a running initialisation of another thread is waited for, and the
-- own one gives the reference as it stands; after a failure each read throws NoClassDefFoundError

-- the entry of an object definition's constructor, whose object isn't made yet
abbrev pub module_entry : ℕ → Entry
module_entry class = record { class = class; part = part.Constructor; this = value.Null; args = [] }

-- a read of an object definition by thread t, by what it is
abbrev pub module_read : ℕ → ℕ → Option Module → Answer
module_read t class (Some modules.NotYet) = answer.Enters (edit.Module class (modules.Running t value.Null)) (module_entry class)
module_read t class (Some (modules.Running u at)) = if u == t then gives at else answer.Waits
module_read t class (Some (modules.Ready v)) = gives v
module_read t class (Some modules.Bad) = throws 15
module_read t class None = answer.Wrong

-- the reference of an object under initialisation is set
abbrev pub module_set : ℕ → Value → Option Module → Answer
module_set class v (Some (modules.Running u at)) = answer.Gives (edit.Module class (modules.Running u v)) value.Unit
module_set class v other = answer.Wrong

-- ---- calls

-- a method that is found is entered
abbrev pub enters : Value → List (Option Value) → Option (ℕ × ℕ) → Answer
enters this args None = answer.Wrong
enters this args (Some found) = answer.Enters edit.Nothing (record { class = found.0; part = part.Method found.1; this = this; args = args })

-- the member that an object's class has of this method's name (SLS 5.1.3)
abbrev pub selected : Program → ℕ → Option Method → Option (ℕ × ℕ)
selected p of None = None
selected p of (Some m) = find p of m.name

-- the first argument is the object of a call
abbrev pub with_first : (Value → List (Option Value) → Answer) → List (Option Value) → Answer
with_first f (Some this ∷ args) = f this args
with_first f other = answer.Wrong

-- a static method, or this very one on an object, the first argument (JVMS 6.5: invokestatic, invokespecial)
abbrev pub enters_on : ℕ → ℕ → Value → List (Option Value) → Answer
enters_on class method (value.Ref r) args = enters (value.Ref r) args (Some (class, method))
enters_on class method value.Null args = on_null
enters_on class method other args = answer.Wrong

-- the call of this very method
abbrev pub directly : ℕ → ℕ → List (Option Value) → Option Method → Answer
directly class method args None = answer.Wrong
directly class method args (Some m) = if m.is_static then enters value.Unit args (Some (class, method)) else with_first (enters_on class method) args

-- the entry of a constructor
abbrev pub constructor_entry : ℕ → Value → List (Option Value) → Entry
constructor_entry class this args = record { class = class; part = part.Constructor; this = this; args = args }

-- whether a class of this kind may be a superclass: it is no trait
abbrev pub is_class : Kind → Bool
is_class kind.Trait = false
is_class other = true

-- a class, if it may be a superclass
abbrev pub superclass_at : Program → ℕ → Option ℕ
superclass_at p class = option_and_then (λ c. if is_class c.kind then Some class else None) (slice_get p.classes class)

-- the superclass in a list of parents: the first, unless that is a trait (SLS 5.1)
abbrev pub superclass_in : Program → List ℕ → Option ℕ
superclass_in p [] = None
superclass_in p (parent ∷ parents) = superclass_at p parent

-- the superclass of a class by its number
abbrev pub superclass : Program → ℕ → Option ℕ
superclass p class = option_and_then (λ c. superclass_in p c.parents) (slice_get p.classes class)

-- the superclass constructor is entered, where there is a superclass
abbrev pub constructs_above : Value → List (Option Value) → Option ℕ → Answer
constructs_above this args None = gives value.Unit
constructs_above this args (Some class) = answer.Enters edit.Nothing (constructor_entry class this args)

-- ---- `==`, `equals`, `toString`: what the object's class has, or else identity and the class's name (SLS 12.1)

-- `equals` of an object, or identity where its class has none
abbrev pub equals_called : ℕ → Value → Option (ℕ × ℕ) → Answer
equals_called r other None = gives (value.Bool (same (value.Ref r) other))
equals_called r other (Some found) = enters (value.Ref r) (Some other ∷ []) (Some found)

-- `==` (SLS 12.1)
abbrev pub compared : Program → Heap → Value → Value → Answer
compared p h (value.Ref r) other = of_object h (value.Ref r) (λ r o. equals_called r other (find p o.class (codes "equals")))
compared p h one other = gives (value.Bool (equal one other))

-- `equals`, which null hasn't got
abbrev pub equals_answer : Program → Heap → Value → Value → Answer
equals_answer p h value.Null other = on_null
equals_answer p h one other = compared p h one other

-- the text that is found
abbrev pub text_or_wrong : Option (List ℕ) → Answer
text_or_wrong None = answer.Wrong
text_or_wrong (Some t) = gives (value.Text t)

-- `toString` of an object, or its class's name where the class has none
abbrev pub text_called : Program → ℕ → Object → Option (ℕ × ℕ) → Answer
text_called p r o None = text_or_wrong (class_name p o.class)
text_called p r o (Some found) = enters (value.Ref r) [] (Some found)

-- a value as a text
abbrev pub text_answer : Program → Heap → Value → Answer
text_answer p h (value.Ref r) = of_object h (value.Ref r) (λ r o. text_called p r o (find p o.class (codes "toString")))
text_answer p h v = gives (value.Text (plain_text v))

-- `toString`, which null hasn't got
abbrev pub to_string_answer : Program → Heap → Value → Answer
to_string_answer p h value.Null = on_null
to_string_answer p h v = text_answer p h v

-- MatchError with the name of the value's class (SLS 8.4)
abbrev pub match_error : Option (List ℕ) → Answer
match_error None = answer.Wrong
match_error (Some name) = answer.Throws 9 (value.Text name)

-- ---- threads: a second start throws, and with a null target the new thread has ended at once

-- the entry of the `run` that is found on a target
abbrev pub run_entry : ℕ → Option (ℕ × ℕ) → Option Entry
run_entry q None = None
run_entry q (Some found) = Some (record { class = found.0; part = part.Method found.1; this = value.Ref q; args = [] })

-- a thread starts with an entry, and its flag is set
abbrev pub starts_if : ℕ → ℕ → Option Entry → Answer
starts_if r at None = answer.Wrong
starts_if r at (Some entry) = answer.Starts (edit.Field r at (value.Bool true)) (Some entry)

-- a thread starts with the `run` of its target
abbrev pub starts_in : Program → ℕ → ℕ → ℕ → Option Object → Answer
starts_in p r at q None = answer.Wrong
starts_in p r at q (Some o) = starts_if r at (run_entry q (find p o.class (codes "run")))

-- a thread starts on its target, which may be null
abbrev pub starts_on : Program → Heap → ℕ → ℕ → Option Value → Answer
starts_on p h r at (Some value.Null) = answer.Starts (edit.Field r at (value.Bool true)) None
starts_on p h r at (Some (value.Ref q)) = starts_in p r at q (slice_get h.objects q)
starts_on p h r at other = answer.Wrong

-- a thread that hasn't been started starts; any other throws IllegalThreadStateException
abbrev pub starts_fresh : Program → Heap → ℕ → ℕ → Option Value → Option Value → Answer
starts_fresh p h r at (Some (value.Bool true)) target = throws 11
starts_fresh p h r at (Some (value.Bool false)) target = starts_on p h r at target
starts_fresh p h r at other target = answer.Wrong

-- the value of a field of an object, by its number
abbrev pub field_at : Object → Option ℕ → Option Value
field_at o number = option_and_then (λ at. slice_get o.fields at) number

-- a thread starts, by its flag and its target
abbrev pub starts : Program → Heap → ℕ → Object → Option ℕ → Answer
starts p h r o None = answer.Wrong
starts p h r o (Some at) = starts_fresh p h r at (slice_get o.fields at) (field_at o (field_number p.classes o.class 1 0))

-- ---- latches and control values

-- a new latch in place of who evaluates
abbrev pub latch_made : Heap → Value → Answer
latch_made h (value.Evaluating u) = answer.Gives edit.AddLatch (value.Latch (length h.latches) u)
latch_made h other = bad_cast

-- whether a control value is of thread t
abbrev pub is_mine : ℕ → Value → Bool
is_mine t (value.Evaluating u) = u == t
is_mine t (value.Latch at u) = u == t
is_mine t other = false

-- a latch that is open is passed, a closed one is waited for
abbrev pub awaited : Option Bool → Answer
awaited (Some true) = gives value.Unit
awaited (Some false) = answer.Waits
awaited None = answer.Wrong

-- the same of a value that should be a latch
abbrev pub latch_awaited : Heap → Value → Answer
latch_awaited h (value.Latch at u) = awaited (slice_get h.latches at)
latch_awaited h value.Null = on_null
latch_awaited h other = bad_cast

-- a latch is opened
abbrev pub latch_opened : Value → Answer
latch_opened (value.Latch at u) = answer.Gives (edit.OpenLatch at) value.Unit
latch_opened value.Null = on_null
latch_opened other = bad_cast

-- ---- what comes of an act of thread t

-- what comes of an act
abbrev pub perform : Program → Heap → ℕ → Act → Answer
perform p h t (act.Read of class field) = of_object h of (λ r o. read o (field_number p.classes o.class class field))
perform p h t (act.Write of class field new) = of_object h of (λ r o. written r new (field_number p.classes o.class class field))
perform p h t (act.Exchange of class field old new) = of_object h of (λ r o. exchanged r o old new (field_number p.classes o.class class field))
perform p h t (act.ReadCell of class cell) = of_object h of (λ r o. cell_read_at t class cell r o (cell_number p.classes o.class class cell))
perform p h t (act.ReadModule class) = module_read t class (slice_get h.modules class)
perform p h t (act.SetModule class of) = module_set class of (slice_get h.modules class)
perform p h t (act.Call class method args) =
    with_first (λ this rest. of_object h this (λ r o. enters (value.Ref r) rest (selected p o.class (method_at p class method)))) args
perform p h t (act.CallSuper after name this args) = of_object h this (λ r o. enters (value.Ref r) args (super_find p o.class after name))
perform p h t (act.CallDirectly class method args) = directly class method args (method_at p class method)
perform p h t (act.Make class) = answer.Gives (edit.AddObject (made p.classes class None)) (value.Ref (length h.objects))
perform p h t (act.Construct class args) = with_first (λ this rest. answer.Enters edit.Nothing (constructor_entry class this rest)) args
perform p h t (act.ConstructAbove class this args) = constructs_above this args (superclass p class)
perform p h t (act.Compare one other) = compared p h one other
perform p h t (act.CallEquals one other) = equals_answer p h one other
perform p h t (act.TextOf v) = text_answer p h v
perform p h t (act.CallToString v) = to_string_answer p h v
perform p h t (act.NameClass v) = text_or_wrong (name_of p h v)
perform p h t (act.Convert to of) = converted p h to of
perform p h t (act.Test of test) = gives (value.Bool (passes p h of test))
perform p h t (act.Unmatched v) = match_error (name_of p h v)
perform p h t (act.Print text) = answer.Gives (edit.AddEvent (event.Line t text)) value.Unit
perform p h t (act.Start v) = of_object h v (λ r o. starts p h r o (field_number p.classes o.class 1 1))
perform p h t act.Mine = gives (value.Evaluating t)
perform p h t (act.MakeLatch v) = latch_made h v
perform p h t (act.IsMine v) = gives (value.Bool (is_mine t v))
perform p h t (act.Await v) = latch_awaited h v
perform p h t (act.CountDown v) = latch_opened v
