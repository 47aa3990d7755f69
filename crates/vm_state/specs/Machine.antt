-- The machine: its first state, a step of a thread, whom a thread waits for and where, as a system of threads that share a
-- heap (JVMS 2.5, 5.5, 6).
use Rattle.std.specs.Prelude.{ℕ, ◌&&◌, ◌||◌, Bool, true, false, if◌then◌else◌, nat_eq, List, [], ◌∷◌, ◌++◌, take, drop, codes, map, Option, Some, None, slice_get}
use Rattle.std.specs.Str.{bytes_eq}
use Rattle.runs.specs.System.{Next, Goes, Waits, Ended, Stuck, System}
use Rattle.runs.specs.SharedHeap.{SharedHeap, HeapState, Stepped, system_of}
use Rattle.ty_prog.specs.declared.event.Event.{Event}
use Rattle.cf_form.specs.declared.code.Code.{Code}
use Rattle.cf_form.specs.declared.instr.Instr.{Instr}
use Rattle.cf_link.specs.declared.built_in.TheConstants.{BUILT_INS}
use Rattle.cf_link.specs.declared.linked.Linked.{Linked}
use Rattle.cf_link.specs.declared.linked_class.LinkedClass.{LinkedClass}
use Rattle.cf_link.specs.declared.member.LinkedMethod.{LinkedMethod}
use Rattle.cf_link.specs.declared.native.Native.{Native}
use Rattle.cf_link.specs.declared.native.Native.TheVariants as native
use Rattle.cf_link.specs.declared.reference.LinkedRef.{LinkedRef}
use Rattle.cf_link.specs.declared.reference.LinkedRef.TheVariants as ref
use Rattle.cf_link.specs.Classes.{is_static, method_at}
use Rattle.vm_state.specs.declared.value.Value.{Value}
use Rattle.vm_state.specs.declared.value.Value.TheVariants as value
use Rattle.vm_state.specs.declared.frame.Frame.{Frame}
use Rattle.vm_state.specs.declared.thread.Thread.{Thread}
use Rattle.vm_state.specs.declared.heap.Heap.{Heap}
use Rattle.vm_state.specs.declared.heap.Init.{Init}
use Rattle.vm_state.specs.declared.heap.Init.TheVariants as init
use Rattle.vm_state.specs.declared.outcomes.Ability.{Ability}
use Rattle.vm_state.specs.declared.outcomes.Ability.TheVariants as able
use Rattle.vm_state.specs.declared.outcomes.HeapMove.{HeapMove}
use Rattle.vm_state.specs.declared.outcomes.HeapMove.TheVariants as move
use Rattle.vm_state.specs.declared.outcomes.LocalStep.{LocalStep}
use Rattle.vm_state.specs.declared.outcomes.LocalStep.TheVariants as step
use Rattle.vm_state.specs.declared.outcomes.StuckKind.TheVariants.{PcOut}
use Rattle.vm_state.specs.Methods.{method_of, code_of, instr_at, ref_at}
use Rattle.vm_state.specs.Local.{LocalAfter, frame_of, local_step}
use Rattle.vm_state.specs.Heaps.{default}
use Rattle.vm_state.specs.HeapStep.{HeapAfter, native_of, heap_step}
use Rattle.vm_state.specs.Natives.{class_text}

-- ---- a step of a thread

-- what a thread can do next, and the heap and the thread after it
pub record VmAfter : Type 0 where
  pub ability : Ability
  pub heap : Heap
  pub thread : Thread

-- what a thread can do whose heap step comes to this
abbrev pub heap_ability : HeapMove → Ability
heap_ability move.Moved = able.Moves
heap_ability move.Waits = able.Waits
heap_ability (move.Stuck kind) = able.Stuck kind
heap_ability move.Memory = able.Stuck PcOut

-- what a heap step leaves
abbrev pub vm_shared : HeapAfter → VmAfter
vm_shared a = record { ability = heap_ability a.move; heap = a.heap; thread = a.thread }

-- the heap and the thread as they were
abbrev pub vm_stays : Heap → Thread → Ability → VmAfter
vm_stays h t a = record { ability = a; heap = h; thread = t }

-- a step is local, or else a heap step. No definition of a step tells of memory
abbrev pub vm_step_by : Linked → Heap → Thread → LocalAfter → LocalStep → VmAfter
vm_step_by k h t a step.Stepped = record { ability = able.Moves; heap = h; thread = a.thread }
vm_step_by k h t a step.AtHeap = vm_shared (heap_step k h t)
vm_step_by k h t a step.Ended = vm_stays h t able.Ended
vm_step_by k h t a (step.Stuck kind) = vm_stays h t (able.Stuck kind)
vm_step_by k h t a step.Memory = vm_stays h t (able.Stuck PcOut)

-- the next step of a thread
abbrev pub vm_step : Linked → Heap → Thread → VmAfter
vm_step k h t = vm_step_by k h t (local_step k t) (local_step k t).step

-- ---- threads that were started

-- the thread that stands in `born`
abbrev pub newborn : List (Option Thread) → Option Thread
newborn [] = None
newborn (None ∷ born) = newborn born
newborn (Some t ∷ born) = Some t

-- it is taken up at once
abbrev pub taken_up : Heap → Heap
taken_up h = record h { born = map (λ t. None) h.born }

-- the move of a thread that can do this, for the system of threads
abbrev pub next_by : Heap → Thread → Ability → Next (Stepped Heap Thread)
next_by h t able.Moves = Goes (record { heap = taken_up h; thread = t; begun = newborn h.born })
next_by h t able.Waits = Waits
next_by h t able.Ended = Ended
next_by h t (able.Stuck kind) = Stuck

-- the move that a step makes, for the system of threads
abbrev pub vm_next : VmAfter → Next (Stepped Heap Thread)
vm_next a = next_by a.heap a.thread a.ability

-- ---- the first state: thread 1 at `Main.main`, no object; the built-in classes are ready, and no other is initialised

-- how far each class is initialised at first: the built-in ones are ready
abbrev pub first_inits : List LinkedClass → List Init
first_inits classes = map (λ c. init.Ready) (take BUILT_INS classes) ++ map (λ c. init.NotYet) (drop BUILT_INS classes)

-- the heap at first, with the texts of the constant pools
abbrev pub first_heap : Linked → Heap
first_heap k = record {
  objects = [];
  texts = k.texts;
  statics = map (λ c. map (λ field. default field.kind) c.statics) k.classes;
  inits = first_inits k.classes;
  opened = [];
  born = None ∷ [];
  trace = [];
}

-- the frame of `main`, where it has code
abbrev pub main_frames : Linked → Option Code → List Frame
main_frames k None = []
main_frames k (Some code) = frame_of (record { class = k.main.0; method = k.main.1 }) code [] ∷ []

-- a thread with this number and these frames
abbrev pub thread_of : ℕ → List Frame → Thread
thread_of number frames = record { number = number; frames = frames; thrown = None }

-- the argument of `main` is null
abbrev pub main_thread : Linked → Thread
main_thread k = thread_of 1 (main_frames k (code_of k k.main.0 k.main.1))

-- thread t at first: only thread 1 has a frame
abbrev pub first_thread : Linked → ℕ → Thread
first_thread k t = if nat_eq t 1 then main_thread k else thread_of t []

-- ---- where a thread waits that can't go on: for a class, or at a latch

-- the class of a method that is called, unless the method is built in
abbrev pub needs_unless : Option Native → ℕ → Option ℕ
needs_unless None class = Some class
needs_unless (Some native) class = None

-- the class that an instruction needs, by what it names; a built-in method needs none
abbrev pub needs_of : Linked → Option LinkedRef → Option ℕ
needs_of k (Some (ref.Static class n)) = Some class
needs_of k (Some (ref.Class class)) = Some class
needs_of k (Some (ref.Method class n)) = needs_unless (native_of (method_at k.classes class n)) class
needs_of k r = None

-- what the pool entry of a frame's instruction resolves to
abbrev pub named_at : Linked → Frame → Option Instr → Option LinkedRef
named_at k f None = None
named_at k f (Some i) = ref_at k f.class i.a

-- the class that a frame's instruction needs
abbrev pub needed : Linked → Frame → Option ℕ
needed k f = needs_of k (named_at k f (instr_at k f))

-- the name of a method
abbrev pub method_name : Option LinkedMethod → List ℕ
method_name None = []
method_name (Some m) = m.name

-- the place of a frame that needs this class, or none: then a latch is awaited in the accessor of a lazy member
abbrev pub place_by : Linked → Frame → Option ℕ → List ℕ
place_by k f (Some class) = class_text k class
place_by k f None = class_text k f.class ++ (codes "." ++ method_name (method_of k f))

-- the place where a thread with these frames waits
abbrev pub place_among : Linked → List Frame → List ℕ
place_among k [] = []
place_among k (f ∷ fs) = place_by k f (needed k f)

-- ---- whom it waits for: the thread that initialises the class, or the one that runs `x$init` of the class and object whose
-- method `x` awaits the latch

-- thread u runs the initialiser of a class that has come so far
abbrev pub initialises : ℕ → Option Init → Bool
initialises u (Some (init.Running t)) = nat_eq t u
initialises u other = false

-- the object of a method that isn't static is its local 0
abbrev pub object_of : Option LinkedMethod → List Value → Option Value
object_of None locals = None
object_of (Some m) locals = if is_static m.access then None else slice_get locals 0

-- two values are one object
abbrev pub same_object : Option Value → Option Value → Bool
same_object (Some (value.Ref a of)) (Some (value.Ref b class)) = nat_eq a b
same_object _ _ = false

-- both frames are of one class and one object
abbrev pub are_of_one : Linked → Frame → Frame → Bool
are_of_one k f g =
    nat_eq f.class g.class && same_object (object_of (method_of k f) f.locals) (object_of (method_of k g) g.locals)

-- the second frame runs `x$init` of the class and object whose method `x` the first one runs
abbrev pub runs_initialiser : Linked → Frame → Frame → Bool
runs_initialiser k f g =
    are_of_one k f g && bytes_eq (method_name (method_of k f) ++ codes "$init") (method_name (method_of k g))

-- one of these frames runs the initialiser that the first waits for
abbrev pub some_runs : Linked → Frame → List Frame → Bool
some_runs k f [] = false
some_runs k f (g ∷ gs) = runs_initialiser k f g || some_runs k f gs

-- a frame that needs this class, or else awaits a latch, waits for thread u with these frames
abbrev pub blocked_by : Linked → Heap → Frame → ℕ → List Frame → Option ℕ → Bool
blocked_by k h f u gs (Some class) = initialises u (slice_get h.inits class)
blocked_by k h f u gs None = some_runs k f gs

-- a thread with the first frames waits for thread u with the second ones
abbrev pub blocked_among : Linked → Heap → List Frame → ℕ → List Frame → Bool
blocked_among k h [] u gs = false
blocked_among k h (f ∷ fs) u gs = blocked_by k h f u gs (needed k f)

-- ---- who frees it: a thread in the same method of the same object that has the closed latch in a local

-- the built-in method that a reference names
abbrev pub native_named : Linked → Option LinkedRef → Option Native
native_named k (Some (ref.Method class n)) = native_of (method_at k.classes class n)
native_named k r = None

-- the latch that a built-in method awaits, by the operands
abbrev pub awaited_by : Option Native → List Value → Option ℕ
awaited_by (Some native.Await) (value.Latch at owner ∷ vs) = Some at
awaited_by _ _ = None

-- the latch that a frame's instruction awaits
abbrev pub awaited : Linked → Frame → Option ℕ
awaited k f = awaited_by (native_named k (named_at k f (instr_at k f))) f.stack.values

-- a latch that is there is closed
abbrev pub is_closed : Option Bool → Bool
is_closed (Some false) = true
is_closed other = false

-- the value is the latch with this number
abbrev pub is_latch_at : ℕ → Value → Bool
is_latch_at at (value.Latch n owner) = nat_eq n at
is_latch_at at v = false

-- one of these locals is the latch with this number
abbrev pub has_latch : ℕ → List Value → Bool
has_latch at [] = false
has_latch at (v ∷ locals) = is_latch_at at v || has_latch at locals

-- the frame g frees f from the closed latch that it awaits: g is of its method and object, and has the latch in a local
abbrev pub frees_by : Linked → Heap → Frame → Frame → Option ℕ → Bool
frees_by k h f g (Some at) =
    is_closed (slice_get h.opened at) && are_of_one k f g && nat_eq f.method g.method && has_latch at g.locals
frees_by k h f g None = false

-- a thread with the second frames frees one with the first, which no exception unwinds
abbrev pub frees_among : Linked → Heap → Option Value → List Frame → List Frame → Bool
frees_among k h None (f ∷ fs) (g ∷ gs) = frees_by k h f g (awaited k f)
frees_among k h _ _ _ = false

-- ---- the system. Class files have no cells, so no step enters or ends an initialiser of one

-- the threads of a linked set, as a system that shares a heap
abbrev pub vm : Linked → SharedHeap Event (List ℕ) Heap Thread
vm k = record {
  first = record { heap = first_heap k; count = 1; threads = first_thread k };
  step = λ t h x. vm_next (vm_step k h x);
  inits = λ t h x. 0;
  trace = λ h. h.trace;
  place = λ h x. place_among k x.frames;
  blocks = λ h x u y. blocked_among k h x.frames u y.frames;
  opens = λ h y x. frees_among k h x.thrown x.frames y.frames;
}

-- the system of a linked set's threads
abbrev pub running : Linked → System Event (List ℕ) (HeapState Heap Thread)
running k = system_of (vm k)
