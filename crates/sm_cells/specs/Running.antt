-- Who runs the initialisers of cells (SIP-20): where a cell is claimed by a thread, the thread has a context of its initialiser.
use Rattle.std.specs.Prelude.{◌≡◌, ℕ, ◌⊎◌, List, [], ◌∷◌, Option, Some, slice_get}
use Rattle.std.specs.Option.{option_and_then}
use Rattle.runs.specs.SharedHeap.{HeapState}
use Rattle.ty_prog.specs.declared.program.Program.{Program}
use Rattle.sm_state.specs.Layout.{cell_number}
use Rattle.sm_state.specs.declared.heap.Heap.{Heap}
use Rattle.sm_state.specs.declared.heap.Object.{Object}
use Rattle.sm_state.specs.declared.once.Once.{Once}
use Rattle.sm_state.specs.declared.once.Once.TheVariants as once
use Rattle.sm_state.specs.declared.part.Part.TheVariants as part
use Rattle.sm_state.specs.declared.thread.Context.{Context}
use Rattle.sm_state.specs.declared.thread.Thread.{Thread}
use Rattle.sm_state.specs.declared.value.Value.TheVariants as value

-- the cell with a number in an object
abbrev pub cell_at : Heap → ℕ → ℕ → Option Once
cell_at h object at = option_and_then (λ o. slice_get o.cells at) (slice_get h.objects object)

-- the context is of the initialiser of the cell with this number in this object
pub record RunsCell (p : Program) (h : Heap) (object at : ℕ) (c : Context) : Type 0 where
  pub cell : ℕ
  pub part : c.part ≡ part.Init cell
  pub this : c.this ≡ value.Ref object
  pub of : Object
  pub there : slice_get h.objects object ≡ Some of
  pub number : cell_number p.classes of.class c.class cell ≡ Some at

-- one of the contexts is
abbrev pub RunsIn : Program → Heap → ℕ → ℕ → List Context → Type 0
RunsIn p h object at [] = ⊥
RunsIn p h object at (c ∷ cs) = RunsCell p h object at c ⊎ RunsIn p h object at cs

-- each thread that a cell names as running its initialiser has a context of it
abbrev pub CellsRun : Program → HeapState Heap Thread → Type 0
CellsRun p s = (object at t : ℕ) → cell_at s.heap object at ≡ Some (once.Running t) → RunsIn p s.heap object at (s.threads t).contexts
