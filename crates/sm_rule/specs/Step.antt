-- The next step of a thread.
use Rattle.std.specs.Prelude.{ℕ, zero, suc, ◌+◌, Bool, true, false, if◌then◌else◌, List, [], ◌∷◌, ◌++◌, take, drop, length, Option, Some, None, option_map, slice_get, slice_set}
use Rattle.std.specs.Option.{option_and_then, option_or, unwrap_or}
use Rattle.runs.specs.System.{Next, Goes, Waits, Ended, Stuck}
use Rattle.runs.specs.SharedHeap.{Stepped}
use Rattle.ty_prog.specs.Tree.{Tree, children}
use Rattle.ty_prog.specs.Shape.{shape}
use Rattle.ty_prog.specs.declared.event.Event.TheVariants as event
use Rattle.ty_prog.specs.declared.kind.Kind.{Kind}
use Rattle.ty_prog.specs.declared.kind.Kind.TheVariants as kind
use Rattle.ty_prog.specs.declared.program.Program.{Program}
use Rattle.sm_state.specs.Entering.{body_of, entered, begun_thread}
use Rattle.sm_state.specs.Layout.{field_number, cell_number, made}
use Rattle.sm_state.specs.declared.entry.Body.{Body}
use Rattle.sm_state.specs.declared.entry.Entry.{Entry}
use Rattle.sm_state.specs.declared.heap.Heap.{Heap}
use Rattle.sm_state.specs.declared.heap.Object.{Object}
use Rattle.sm_state.specs.declared.module.Module.{Module}
use Rattle.sm_state.specs.declared.module.Module.TheVariants as modules
use Rattle.sm_state.specs.declared.once.Once.{Once}
use Rattle.sm_state.specs.declared.once.Once.TheVariants as once
use Rattle.sm_state.specs.declared.part.Part.{Part}
use Rattle.sm_state.specs.declared.part.Part.TheVariants as part
use Rattle.sm_state.specs.declared.thread.Context.{Context}
use Rattle.sm_state.specs.declared.thread.Level.{Level}
use Rattle.sm_state.specs.declared.thread.Thread.{Thread}
use Rattle.sm_state.specs.declared.value.Value.{Value}
use Rattle.sm_state.specs.declared.value.Value.TheVariants as value
use Rattle.sm_rule.specs.declared.act.Act.TheVariants as act
use Rattle.sm_rule.specs.declared.answer.Answer.{Answer}
use Rattle.sm_rule.specs.declared.answer.Answer.TheVariants as answer
use Rattle.sm_rule.specs.declared.answer.Edit.{Edit}
use Rattle.sm_rule.specs.declared.answer.Edit.TheVariants as edit
use Rattle.sm_rule.specs.declared.moves.Move.{Move}
use Rattle.sm_rule.specs.declared.moves.Move.TheVariants as move
use Rattle.sm_rule.specs.Edits.{edited}
use Rattle.sm_rule.specs.Moves.{Sight, kept, begun, received, passed, caught}
use Rattle.sm_rule.specs.Perform.{perform, is_instance, field_at, class_name, instance_of}

-- what a thread does next
abbrev pub After : Type 0
After = Next (Stepped Heap Thread)

-- a thread goes on in these contexts, with a value that is handed up, if there is one
abbrev pub goes : Heap → List Context → Option Value → After
goes h contexts v = Goes (record { heap = h; thread = record { contexts = contexts; value = v; thrown = None }; begun = None })

-- it goes on with an exception
abbrev pub throws : Heap → List Context → Value → After
throws h contexts x = Goes (record { heap = h; thread = record { contexts = contexts; value = None; thrown = Some x }; begun = None })

-- a new exception is made and thrown, in one move
abbrev pub fails : Program → Heap → List Context → ℕ → Value → After
fails p h contexts class message =
    throws (edited (edit.AddObject (made p.classes class (Some message))) h) contexts (value.Ref (length h.objects))

-- ---- what comes of an answer: the node has ended in `e`, and throws in `c`

-- a part is entered, if there is one
abbrev pub enters : Heap → Context → List Context → Entry → Option Body → After
enters h e cs entry None = Stuck
enters h e cs entry (Some b) = goes h (entered entry b ∷ e ∷ cs) None

-- a thread is begun, and the one that begins it goes on
abbrev pub starts : Heap → Context → List Context → Thread → After
starts h e cs born = Goes (record { heap = h; thread = record { contexts = e ∷ cs; value = Some value.Unit; thrown = None }; begun = Some born })

-- the same, with the body of an entry, if there is one
abbrev pub starts_in : Heap → Context → List Context → Entry → Option Body → After
starts_in h e cs entry None = Stuck
starts_in h e cs entry (Some b) = starts h e cs (begun_thread (Some (entered entry b)))

-- the same, with an entry, or with none for a thread that has ended at once
abbrev pub started : Program → Heap → Context → List Context → Option Entry → After
started p h e cs None = starts h e cs (begun_thread None)
started p h e cs (Some entry) = starts_in h e cs entry (body_of p entry.class entry.part)

-- what comes of an answer
abbrev pub done : Program → Heap → Context → Context → List Context → Answer → After
done p h c e cs (answer.Gives edit v) = goes (edited edit h) (e ∷ cs) (Some v)
done p h c e cs (answer.Enters edit entry) = enters (edited edit h) e cs entry (body_of p entry.class entry.part)
done p h c e cs (answer.Starts edit entry) = started p (edited edit h) e cs entry
done p h c e cs (answer.Throws class message) = fails p h (c ∷ cs) class message
done p h c e cs answer.Waits = Waits
done p h c e cs answer.Wrong = Stuck

-- ---- what a move does

-- the context at the child of a node with this number
abbrev pub at_child : Tree → List Level → ℕ → Context → Option Context
at_child tree levels i c =
    option_map (λ n. record c { node = n; levels = record { node = tree; child = i } ∷ levels }) (slice_get (children tree) i)

-- the child begins, if there is one
abbrev pub child_begins : Heap → List Context → Option Context → After
child_begins h cs None = Stuck
child_begins h cs (Some c) = goes h (c ∷ cs) None

-- a constructor goes on with its next stage, or ends with its object
abbrev pub advances : Heap → Context → List Context → Option Context → After
advances h e cs None = goes h (e ∷ cs) (Some e.this)
advances h e cs (Some c) = goes h (c ∷ cs) None

-- the parameter of a case class that an object has, if it is of that class
abbrev pub parameter_of : Program → ℕ → ℕ → Object → Option Value
parameter_of p class index o =
    option_and_then (λ k. option_and_then (λ field. field_at o (field_number p.classes o.class class field)) (slice_get k.params index)) (slice_get p.classes class)

-- the same of a reference that may have no object
abbrev pub parameter_if : Program → ℕ → ℕ → Option Object → Option Value
parameter_if p class index None = None
parameter_if p class index (Some o) = if instance_of p class (Some o) then parameter_of p class index o else None

-- the same of a value
abbrev pub parameter : Program → Heap → ℕ → ℕ → Value → Option Value
parameter p h class index (value.Ref r) = parameter_if p class index (slice_get h.objects r)
parameter p h class index other = None

-- the child begins with a part of a case class's object on top, or where there is no such part, the pattern fails
abbrev pub opens : Heap → Context → List Context → Tree → List Level → ℕ → Value → Option Value → After
opens h e cs tree levels i of None = goes h (e ∷ cs) (Some (value.Bool false))
opens h e cs tree levels i of (Some v) = child_begins h cs (at_child tree levels i (record e { operands = v ∷ of ∷ e.operands }))

-- operands with one more on top, if there is one
abbrev pub with_own : Option Value → List Value → List Value
with_own None operands = operands
with_own (Some v) operands = v ∷ operands

-- a move of the node `tree` below these levels: the context as it stands, and as it is where the node has ended
abbrev pub carried : Program → Heap → ℕ → Context → Context → Tree → List Level → List Context → Move → After
carried p h t c e tree levels cs move.Stuck = Stuck
carried p h t c e tree levels cs (move.End v) = goes h (e ∷ cs) (Some v)
carried p h t c e tree levels cs (move.Store local v gives) = goes h (record e { locals = slice_set e.locals local (Some v) } ∷ cs) (Some gives)
carried p h t c e tree levels cs (move.Turn i) = child_begins h cs (at_child tree levels i c)
carried p h t c e tree levels cs (move.Fresh i) = child_begins h cs (at_child tree levels i e)
carried p h t c e tree levels cs (move.Keep i v) = child_begins h cs (at_child tree levels i (record c { operands = v ∷ c.operands }))
carried p h t c e tree levels cs (move.Bind local v i) = child_begins h cs (at_child tree levels i (record e { locals = slice_set e.locals local (Some v) }))
carried p h t c e tree levels cs (move.Shelve i raised v) = child_begins h cs (at_child tree levels i (record e { operands = v ∷ value.Bool raised ∷ e.operands }))
carried p h t c e tree levels cs (move.Open class index of) = opens h e cs tree levels index of (parameter p h class index of)
carried p h t c e tree levels cs (move.Hold class) =
    child_begins (edited (edit.AddObject (made p.classes class None)) h) cs (at_child tree levels 0 (record e { operands = value.Ref (length h.objects) ∷ e.operands }))
carried p h t c e tree levels cs (move.Do a) = done p h c e cs (perform p h t a)
carried p h t c e tree levels cs (move.Again own i a) =
    done p h c (record e { node = tree; levels = record { node = tree; child = i } ∷ levels; operands = with_own own e.operands }) cs (perform p h t a)
carried p h t c e tree levels cs move.Embody =
    goes (edited (edit.AddObject (made p.classes c.class None)) h) (record c { this = value.Ref (length h.objects) } ∷ cs) None
carried p h t c e tree levels cs (move.Advance i) = advances h e cs (at_child tree levels i e)
carried p h t c e tree levels cs (move.Publish i) =
    advances (edited (edit.Module e.class (modules.Running t e.this)) h) e cs (at_child tree levels i e)
carried p h t c e tree levels cs (move.Raise x) = throws h (c ∷ cs) x
carried p h t c e tree levels cs (move.Fail class message) = fails p h (c ∷ cs) class message
carried p h t c e tree levels cs move.Pass = Stuck

-- ---- a node begins

-- the number of the node below the node above; 0 at the root
abbrev pub child_number : List Level → ℕ
child_number [] = 0
child_number (l ∷ levels) = l.child

-- what the node of a context sees
abbrev pub sight : Context → Sight
sight c = record { this = c.this; class = c.class; locals = c.locals; child = child_number c.levels; operands = c.operands }

-- the node of a context begins
abbrev pub begins : Program → Heap → ℕ → Context → List Context → After
begins p h t c cs = carried p h t c c c.node c.levels cs (begun (sight c) (shape c.node))

-- ---- a node gets the value of a child

-- the context where the node of this level has ended, after so many operands were dropped
abbrev pub ended_at : Context → ℕ → Level → List Level → Context
ended_at c n l levels = record c { node = l.node; levels = levels; operands = drop n c.operands }

-- the case below this level doesn't match
abbrev pub passes : Program → Heap → ℕ → Context → List Level → List Context → After
passes p h t c [] cs = Stuck
passes p h t c (l ∷ levels) cs =
    carried p h t c (ended_at c (kept (shape l.node) l.child) l levels) l.node levels cs
    (passed l.child (take (kept (shape l.node) l.child) c.operands) (shape l.node))

-- a move of the node, or the case that it stands in doesn't match
abbrev pub carried_or_passed : Program → Heap → ℕ → Context → Context → Tree → List Level → List Context → Move → After
carried_or_passed p h t c e tree levels cs move.Pass = passes p h t e levels cs
carried_or_passed p h t c e tree levels cs m = carried p h t c e tree levels cs m

-- the node above gets the value
abbrev pub receives : Program → Heap → ℕ → Context → List Context → Value → Level → List Level → After
receives p h t c cs v l levels =
    carried_or_passed p h t c (ended_at c (kept (shape l.node) l.child) l levels) l.node levels cs
    (received c.this l.child v (take (kept (shape l.node) l.child) c.operands) (shape l.node))

-- ---- a context is left

-- `main` before its object is read
abbrev pub awaits_object : Value → Part → Bool
awaits_object value.Null (part.Method m) = true
awaits_object this other = false

-- the kind of a class
abbrev pub class_kind : Program → ℕ → Kind
class_kind p class = unwrap_or (option_map (λ c. c.kind) (slice_get p.classes class)) kind.Class

-- the change of an object definition, where the class is one
abbrev pub module_edit : ℕ → Module → Kind → Edit
module_edit class state kind.Object = edit.Module class state
module_edit class state other = edit.Nothing

-- the change of a cell of an object, by its number
abbrev pub cell_edit_at : ℕ → Once → Option ℕ → Edit
cell_edit_at r once None = edit.Nothing
cell_edit_at r once (Some at) = edit.Cell r at once

-- the same, by the number of the cell in its class
abbrev pub cell_edit_in : Program → ℕ → ℕ → ℕ → Once → Option Object → Edit
cell_edit_in p class cell r once None = edit.Nothing
cell_edit_in p class cell r once (Some o) = cell_edit_at r once (cell_number p.classes o.class class cell)

-- the same, by the object
abbrev pub cell_edit : Program → Heap → ℕ → ℕ → Once → Value → Edit
cell_edit p h class cell once (value.Ref r) = cell_edit_in p class cell r once (slice_get h.objects r)
cell_edit p h class cell once other = edit.Nothing

-- a value leaves a part: the cell is done, the object definition ready
abbrev pub noted : Program → Heap → Context → Value → Part → Edit
noted p h c v (part.Method m) = edit.Nothing
noted p h c v (part.Init cell) = cell_edit p h c.class cell (once.Done v) c.this
noted p h c v part.Constructor = module_edit c.class (modules.Ready c.this) (class_kind p c.class)

-- the value for the context below, if there is one
abbrev pub value_for : List Context → Value → Option Value
value_for [] v = None
value_for (c ∷ cs) v = Some v

-- a value leaves a part; that which `main` awaits is its object
abbrev pub leaves : Program → Heap → Context → List Context → Value → Bool → After
leaves p h c cs v true = goes h (record c { this = v } ∷ cs) None
leaves p h c cs v false = goes (edited (noted p h c v c.part) h) cs (value_for cs v)

-- a value is handed up: to the node above, or out of the part
abbrev pub hands_up : Program → Heap → ℕ → Context → List Context → Value → List Level → After
hands_up p h t c cs v [] = leaves p h c cs v (awaits_object c.this c.part)
hands_up p h t c cs v (l ∷ levels) = receives p h t c cs v l levels

-- ---- exceptions

-- where an exception is caught: the node, the levels above it, how many operands go, and its move
pub record Landing : Type 0 where
  pub node : Tree
  pub levels : List Level
  pub taken : ℕ
  pub move : Move

-- what a node does with an exception, or what a node further out does
abbrev pub caught_at : Option Move → ℕ → Level → List Level → Option Landing → Option Landing
caught_at None n l levels rest = rest
caught_at (Some m) n l levels rest = Some (record { node = l.node; levels = levels; taken = n; move = m })

-- the innermost node that does something with it
abbrev pub landing : Value → ℕ → List Level → Option Landing
landing x n [] = None
landing x n (l ∷ levels) =
    caught_at (caught l.child x (shape l.node)) (n + kept (shape l.node) l.child) l levels
    (landing x (n + kept (shape l.node) l.child) levels)

-- an exception leaves a part: the cell is empty again, the object definition bad
abbrev pub dropped : Program → Heap → Context → Part → Edit
dropped p h c (part.Method m) = edit.Nothing
dropped p h c (part.Init cell) = cell_edit p h c.class cell once.Empty c.this
dropped p h c part.Constructor = module_edit c.class modules.Bad (class_kind p c.class)

-- whether an exception is an Error
abbrev pub is_error : Program → Heap → Value → Bool
is_error p h (value.Ref r) = is_instance p h 12 r
is_error p h other = false

-- an initialisation that fails by an exception that is no Error fails by ExceptionInInitializerError (JVMS 5.5)
abbrev pub replaced_in : Kind → Bool → Bool
replaced_in kind.Object false = true
replaced_in other error = false

-- the same of a context that the exception leaves
abbrev pub is_replaced : Program → Heap → Context → Value → Part → Bool
is_replaced p h c x part.Constructor = replaced_in (class_kind p c.class) (is_error p h x)
is_replaced p h c x other = false

-- the text of a value that is one
abbrev pub text_only : Value → Option (List ℕ)
text_only (value.Text t) = Some t
text_only other = None

-- the event of an exception that leaves the last context: its class, and the message that its constructor was given
abbrev pub uncaught_in : Program → ℕ → Option Object → Edit
uncaught_in p t None = edit.Nothing
uncaught_in p t (Some o) = edit.AddEvent (event.Uncaught t (unwrap_or (class_name p o.class) [])
    (option_and_then text_only (field_at o (field_number p.classes o.class 2 0))))

-- the same by the exception's reference
abbrev pub uncaught : Program → Heap → ℕ → Value → Edit
uncaught p h t (value.Ref r) = uncaught_in p t (slice_get h.objects r)
uncaught p h t other = edit.Nothing

-- it leaves the last context, and the thread has ended; or it goes on in the next one
abbrev pub escapes : Program → Heap → ℕ → Value → List Context → After
escapes p h t x [] = goes (edited (uncaught p h t x) h) [] None
escapes p h t x (c ∷ cs) = throws h (c ∷ cs) x

-- the exception escapes, or ExceptionInInitializerError in its place
abbrev pub escapes_as : Program → Heap → ℕ → Value → List Context → Bool → After
escapes_as p h t x cs true =
    escapes p (edited (edit.AddObject (made p.classes 14 (Some value.Null))) h) t (value.Ref (length h.objects)) cs
escapes_as p h t x cs false = escapes p h t x cs

-- the node that catches it makes its move
abbrev pub lands : Program → Heap → ℕ → Context → Landing → List Context → After
lands p h t e k cs = carried p h t e e k.node k.levels cs k.move

-- an exception is caught, or leaves the part
abbrev pub unwinds : Program → Heap → ℕ → Context → List Context → Value → Option Landing → After
unwinds p h t c cs x None = escapes_as p (edited (dropped p h c c.part) h) t x cs (is_replaced p h c x c.part)
unwinds p h t c cs x (Some k) =
    lands p h t (record c { node = k.node; levels = k.levels; operands = drop k.taken c.operands }) k cs

-- ---- the next step

-- `main` reads its object first
abbrev pub begins_or_reads : Program → Heap → ℕ → Context → List Context → Bool → After
begins_or_reads p h t c cs true = done p h c c cs (perform p h t (act.ReadModule p.main))
begins_or_reads p h t c cs false = begins p h t c cs

-- the next step by the contexts, the value that is handed up and the exception
abbrev pub next_of : Program → Heap → ℕ → List Context → Option Value → Option Value → After
next_of p h t [] v x = Ended
next_of p h t (c ∷ cs) v (Some x) = unwinds p h t c cs x (landing x 0 c.levels)
next_of p h t (c ∷ cs) None None = begins_or_reads p h t c cs (awaits_object c.this c.part)
next_of p h t (c ∷ cs) (Some v) None = hands_up p h t c cs v c.levels

-- what a move of thread t does to the heap and to the thread, and the thread that it begins
abbrev pub step : Program → ℕ → Heap → Thread → After
step p t h th = next_of p h t th.contexts th.value th.thrown
