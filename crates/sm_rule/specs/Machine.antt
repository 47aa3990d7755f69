-- The threads of a program as a system over one heap: whom a thread waits for, and where.
use Rattle.std.specs.Prelude.{ℕ, zero, suc, ◌+◌, ◌-◌, ◌==◌, ◌&&◌, ◌||◌, not, Bool, true, false, if◌then◌else◌, nat_eq, is_some, List, [], ◌∷◌, ◌++◌, take, length, codes, Option, Some, None, option_map, slice_get}
use Rattle.std.specs.Option.{option_and_then, option_or, unwrap_or}
use Rattle.std.specs.Str.{bytes_eq}
use Rattle.runs.specs.System.{Next, Goes, Waits, Ended, Stuck, System}
use Rattle.runs.specs.SharedHeap.{SharedHeap, HeapState, Stepped, system_of}
use Rattle.ty_prog.specs.Shape.{shape}
use Rattle.ty_prog.specs.declared.event.Event.{Event}
use Rattle.ty_prog.specs.declared.program.Program.{Program}
use Rattle.sm_state.specs.Entering.{first_heap, main_context, begun_thread, method_at}
use Rattle.sm_state.specs.Layout.{linear_of, cell_number}
use Rattle.sm_state.specs.declared.heap.Heap.{Heap}
use Rattle.sm_state.specs.declared.heap.Object.{Object}
use Rattle.sm_state.specs.declared.module.Module.{Module}
use Rattle.sm_state.specs.declared.module.Module.TheVariants as modules
use Rattle.sm_state.specs.declared.once.Once.{Once}
use Rattle.sm_state.specs.declared.once.Once.TheVariants as once
use Rattle.sm_state.specs.declared.part.Part.{Part}
use Rattle.sm_state.specs.declared.part.Part.TheVariants as part
use Rattle.sm_state.specs.declared.thread.Context.{Context}
use Rattle.sm_state.specs.declared.thread.Level.{Level}
use Rattle.sm_state.specs.declared.thread.Thread.{Thread}
use Rattle.sm_state.specs.declared.value.Value.{Value}
use Rattle.sm_state.specs.declared.value.Value.TheVariants as value
use Rattle.sm_rule.specs.declared.act.Act.{Act}
use Rattle.sm_rule.specs.declared.act.Act.TheVariants as act
use Rattle.sm_rule.specs.declared.moves.Move.{Move}
use Rattle.sm_rule.specs.declared.moves.Move.TheVariants as move
use Rattle.sm_rule.specs.Moves.{kept, begun, received}
use Rattle.sm_rule.specs.Perform.{has, class_name, superclass_at}
use Rattle.sm_rule.specs.Step.{awaits_object, sight, step}

-- ---- the act that a thread's next move makes, if it makes one

-- the act of a move
abbrev pub act_of : Move → Option Act
act_of (move.Do a) = Some a
act_of (move.Again own i a) = Some a
act_of other = None

-- the act with which a node begins; `main` reads its object first
abbrev pub begin_act : Program → Context → Bool → Option Act
begin_act p c true = Some (act.ReadModule p.main)
begin_act p c false = act_of (begun (sight c) (shape c.node))

-- the act of the node that gets the value of its child
abbrev pub receive_act : Context → Value → List Level → Option Act
receive_act c v [] = None
receive_act c v (l ∷ levels) = act_of (received c.this l.child v (take (kept (shape l.node) l.child) c.operands) (shape l.node))

-- the act by the contexts, the value that is handed up and the exception
abbrev pub act_at : Program → List Context → Option Value → Option Value → Option Act
act_at p [] v x = None
act_at p (c ∷ cs) v (Some x) = None
act_at p (c ∷ cs) None None = begin_act p c (awaits_object c.this c.part)
act_at p (c ∷ cs) (Some v) None = receive_act c v c.levels

-- the act of a thread's next move
abbrev pub next_act : Program → Thread → Option Act
next_act p th = act_at p th.contexts th.value th.thrown

-- ---- where a thread waits: at a lazy member, by its name and the class that has its accessor, or at an object definition,
-- by its name

-- the name of a member with that of its class in front
abbrev pub member_name : Program → ℕ → Option (List ℕ) → List ℕ
member_name p class name = unwrap_or (class_name p class) [] ++ codes "." ++ unwrap_or name []

-- whether a template is no trait and has another, or itself, in its linearisation
abbrev pub is_home : Program → ℕ → ℕ → Bool
is_home p class above = is_some (superclass_at p above) && has class (linear_of p.classes above)

-- the topmost such template in a linearisation: a class itself, and for a trait the class that first mixes it in
abbrev pub home_in : Program → ℕ → List ℕ → Option ℕ
home_in p class [] = None
home_in p class (above ∷ linear) = option_or (home_in p class linear) (if is_home p class above then Some above else None)

-- the name of a lazy member of an object; a trait's goes by the class that mixes it in first
abbrev pub cell_name : Program → ℕ → ℕ → Option Object → List ℕ
cell_name p class cell None = []
cell_name p class cell (Some o) =
    member_name p (unwrap_or (home_in p class (linear_of p.classes o.class)) class)
    (option_and_then (λ c. option_map (λ k. k.name) (slice_get c.cells cell)) (slice_get p.classes class))

-- the name of the method that a context is in
abbrev pub method_name : Program → ℕ → Part → Option (List ℕ)
method_name p class (part.Method m) = option_map (λ m. m.name) (method_at p class m)
method_name p class other = None

-- the name of the method in which a thread stands
abbrev pub top_name : Program → List Context → List ℕ
top_name p [] = []
top_name p (c ∷ cs) = member_name p c.class (method_name p c.class c.part)

-- where a thread waits, by its next act; empty for one that can't wait
abbrev pub waits_at : Program → Heap → Thread → Option Act → List ℕ
waits_at p h th (Some (act.ReadCell (value.Ref r) class cell)) = cell_name p class cell (slice_get h.objects r)
waits_at p h th (Some (act.ReadModule class)) = unwrap_or (class_name p class) []
waits_at p h th (Some (act.Await v)) = top_name p th.contexts
waits_at p h th other = []

-- ---- whom it waits for: who runs the initialiser of the cell or the initialisation of the object; and at a latch, who runs
-- the method `x$init` of the class and object whose method `x` awaits it

-- the cell is being initialised by this thread
abbrev pub is_run_by : ℕ → Option Once → Bool
is_run_by u (Some (once.Running t)) = t == u
is_run_by u other = false

-- the same of a cell of an object
abbrev pub cell_run_by : Program → ℕ → ℕ → ℕ → Option Object → Bool
cell_run_by p u class cell None = false
cell_run_by p u class cell (Some o) =
    is_run_by u (option_and_then (λ at. slice_get o.cells at) (cell_number p.classes o.class class cell))

-- the object definition is being initialised by this thread
abbrev pub module_run_by : ℕ → Option Module → Bool
module_run_by u (Some (modules.Running t at)) = t == u
module_run_by u other = false

-- the second name is the first with `$init` behind it
abbrev pub names_init : Option (List ℕ) → Option (List ℕ) → Bool
names_init (Some x) (Some y) = bytes_eq (x ++ codes "$init") y
names_init other y = false

-- the same object; a static method has none
abbrev pub is_same_object : Value → Value → Bool
is_same_object (value.Ref r) (value.Ref q) = r == q
is_same_object one other = false

-- the second context is in the initialiser of the member that the first awaits
abbrev pub initialises : Program → Context → Context → Bool
initialises p c d =
    (d.class == c.class) && is_same_object d.this c.this && names_init (method_name p c.class c.part) (method_name p d.class d.part)

-- one of the contexts is in the initialiser of that member
abbrev pub some_initialises : Program → Context → List Context → Bool
some_initialises p c [] = false
some_initialises p c (d ∷ ds) = initialises p c d || some_initialises p c ds

-- the same part of a class
abbrev pub same_part : Part → Part → Bool
same_part (part.Method m) (part.Method n) = nat_eq m n
same_part (part.Init m) (part.Init n) = nat_eq m n
same_part part.Constructor part.Constructor = true
same_part _ _ = false

-- the same part of the same class and object
abbrev pub in_same_part : Context → Context → Bool
in_same_part c d = (d.class == c.class) && same_part d.part c.part && is_same_object d.this c.this

-- a context of the second thread is in the initialiser of the member that the first awaits
abbrev pub awaits_of : Program → List Context → List Context → Bool
awaits_of p [] ds = false
awaits_of p (c ∷ cs) ds = some_initialises p c ds

-- the first thread, by its next act, waits for the second
abbrev pub blocked_by : Program → Heap → Thread → ℕ → Thread → Option Act → Bool
blocked_by p h x u y (Some (act.ReadCell (value.Ref r) class cell)) = cell_run_by p u class cell (slice_get h.objects r)
blocked_by p h x u y (Some (act.ReadModule class)) = module_run_by u (slice_get h.modules class)
blocked_by p h x u y (Some (act.Await v)) = awaits_of p x.contexts y.contexts
blocked_by p h x u y other = false

-- ---- who frees it: a thread in the same method of the same object that has the latch in a local

-- the local has this latch
abbrev pub is_latch : ℕ → Option Value → Bool
is_latch at (Some (value.Latch k u)) = k == at
is_latch at other = false

-- one of the locals has this latch
abbrev pub has_latch : ℕ → List (Option Value) → Bool
has_latch at [] = false
has_latch at (v ∷ locals) = is_latch at v || has_latch at locals

-- the second thread stands in the same method of the same object as the first, and has the latch in a local
abbrev pub frees_at : ℕ → List Context → List Context → Bool
frees_at at (c ∷ cs) (d ∷ ds) = in_same_part c d && has_latch at d.locals
frees_at at _ _ = false

-- the latch is there and isn't open yet
abbrev pub is_closed : Option Bool → Bool
is_closed (Some false) = true
is_closed other = false

-- the first of two threads frees the second, which awaits a latch
abbrev pub opens_for : Heap → Thread → Thread → Option Act → Bool
opens_for h y x (Some (act.Await (value.Latch at u))) = is_closed (slice_get h.latches at) && frees_at at x.contexts y.contexts
opens_for h y x other = false

-- ---- how many initialisers of cells a move enters or ends: a move enters or leaves one context at most

-- 1 for the initialiser of a cell, 0 for any other part
abbrev pub init_count : Part → ℕ
init_count (part.Init cell) = 1
init_count other = 0

-- how many of the contexts are in initialisers of cells
abbrev pub running_inits : List Context → ℕ
running_inits [] = 0
running_inits (c ∷ cs) = init_count c.part + running_inits cs

-- how far two numbers are apart
abbrev pub difference : ℕ → ℕ → ℕ
difference m n = (m - n) + (n - m)

-- how many initialisers of cells the thread's next move enters or ends
abbrev pub inits_of : Thread → Next (Stepped Heap Thread) → ℕ
inits_of th (Goes x) = difference (running_inits th.contexts) (running_inits x.thread.contexts)
inits_of th other = 0

-- ---- the system

-- the threads at first: thread 1 is at `main`, every other one has ended
abbrev pub first_threads : Program → ℕ → Thread
first_threads p t = if t == 1 then begun_thread (main_context p) else begun_thread None

-- the threads of a program, over one heap
abbrev pub machine : Program → SharedHeap Event (List ℕ) Heap Thread
machine p = record {
  first = record { heap = first_heap p; count = 1; threads = first_threads p };
  step = step p;
  inits = λ t h th. inits_of th (step p t h th);
  trace = λ h. h.trace;
  place = λ h th. waits_at p h th (next_act p th);
  blocks = λ h x u y. blocked_by p h x u y (next_act p x);
  opens = λ h y x. opens_for h y x (next_act p x);
}

-- the meaning of a program: the system of these threads
abbrev pub meaning : Program → System Event (List ℕ) (HeapState Heap Thread)
meaning p = system_of (machine p)
