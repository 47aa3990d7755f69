-- Contexts as they are entered, and the first state.
use Rattle.std.specs.Prelude.{ℕ, ◌-◌, List, [], ◌∷◌, ◌++◌, map, length, replicate, codes, Option, Some, None, option_map, slice_get}
use Rattle.std.specs.Option.{option_and_then}
use Rattle.ty_prog.specs.Tree.{ExprTree, ConstructorTree}
use Rattle.ty_prog.specs.Find.{find}
use Rattle.ty_prog.specs.declared.class.Class.{Class}
use Rattle.ty_prog.specs.declared.cell.Cell.{Cell}
use Rattle.ty_prog.specs.declared.method.Method.{Method}
use Rattle.ty_prog.specs.declared.program.Program.{Program}
use Rattle.sm_state.specs.declared.value.Value.TheVariants as value
use Rattle.sm_state.specs.declared.module.Module.TheVariants as modules
use Rattle.sm_state.specs.declared.part.Part.{Part}
use Rattle.sm_state.specs.declared.part.Part.TheVariants as part
use Rattle.sm_state.specs.declared.entry.Entry.{Entry}
use Rattle.sm_state.specs.declared.entry.Body.{Body}
use Rattle.sm_state.specs.declared.heap.Heap.{Heap}
use Rattle.sm_state.specs.declared.thread.Context.{Context}
use Rattle.sm_state.specs.declared.thread.Thread.{Thread}
use Rattle.sm_state.specs.declared.state.State.{State}

-- the tree of a method, and how many locals it has
abbrev pub method_body : Method → Option Body
method_body m = option_map (λ e. record { node = ExprTree e; locals = m.locals }) m.body

-- the same of a cell's initialiser
abbrev pub cell_body : Cell → Body
cell_body cell = record { node = ExprTree cell.init; locals = cell.locals }

-- the same of a part of a class
abbrev pub body_in : Class → Part → Option Body
body_in class (part.Method m) = option_and_then method_body (slice_get class.methods m)
body_in class (part.Init cell) = option_map cell_body (slice_get class.cells cell)
body_in class part.Constructor = Some (record { node = ConstructorTree class; locals = class.locals })

-- the same of a part of a class of a program, by the number of the class
abbrev pub body_of : Program → ℕ → Part → Option Body
body_of p class part = option_and_then (λ c. body_in c part) (slice_get p.classes class)

-- the context of a part as it is entered: before its root, with its arguments in its first locals and no other set
abbrev pub entered : Entry → Body → Context
entered e b = record {
  class = e.class;
  part = e.part;
  this = e.this;
  node = b.node;
  levels = [];
  operands = [];
  locals = e.args ++ replicate (b.locals - length e.args) None;
}

-- what is shared at first: no object and no latch, no object definition initialised, nothing printed
abbrev pub first_heap : Program → Heap
first_heap p = record { objects = []; latches = []; modules = map (λ c. modules.NotYet) p.classes; trace = [] }

-- `main` before it is called: its object isn't read yet, and its parameter is null
abbrev pub main_entry : ℕ → ℕ → Method → Entry
main_entry class method m = record {
  class = class;
  part = part.Method method;
  this = value.Null;
  args = replicate (length m.params) (Some value.Null);
}

-- the context before `main`
abbrev pub main_in : ℕ → ℕ → Method → Option Context
main_in class method m = option_map (entered (main_entry class method m)) (method_body m)

-- the method with this number of a class
abbrev pub method_at : Program → ℕ → ℕ → Option Method
method_at p class method = option_and_then (λ c. slice_get c.methods method) (slice_get p.classes class)

-- the context before the `main` of a program, if it has one
abbrev pub main_context : Program → Option Context
main_context p =
    option_and_then (λ found. option_and_then (main_in found.0 found.1) (method_at p found.0 found.1)) (find p p.main (codes "main"))

-- a thread with this context, or one that has ended
abbrev pub begun_thread : Option Context → Thread
begun_thread None = record { contexts = []; value = None; thrown = None }
begun_thread (Some c) = record { contexts = c ∷ []; value = None; thrown = None }

-- the first state: thread 1 before `main`
abbrev pub start : Program → State
start p = record { heap = first_heap p; threads = begun_thread (main_context p) ∷ [] }
