-- Changes of what threads share.
use Rattle.std.specs.Prelude.{ℕ, false, true, List, [], ◌∷◌, ◌++◌, Option, Some, None, slice_get, slice_set}
use Rattle.sm_state.specs.declared.value.Value.{Value}
use Rattle.sm_state.specs.declared.once.Once.{Once}
use Rattle.sm_state.specs.declared.heap.Object.{Object}
use Rattle.sm_state.specs.declared.heap.Heap.{Heap}
use Rattle.sm_rule.specs.declared.answer.Edit.{Edit}
use Rattle.sm_rule.specs.declared.answer.Edit.TheVariants as edit

-- an object with another value in the field with a number
abbrev pub with_field : ℕ → Value → Object → Object
with_field at v o = record o { fields = slice_set o.fields at v }

-- an object with another state of the cell with a number
abbrev pub with_cell : ℕ → Once → Object → Object
with_cell at once o = record o { cells = slice_set o.cells at once }

-- the objects with this one changed, if it is there
abbrev pub changed_to : List Object → ℕ → (Object → Object) → Option Object → List Object
changed_to objects r f None = objects
changed_to objects r f (Some o) = slice_set objects r (f o)

-- the objects with this one changed
abbrev pub changed : List Object → ℕ → (Object → Object) → List Object
changed objects r f = changed_to objects r f (slice_get objects r)

-- the heap after a change
abbrev pub edited : Edit → Heap → Heap
edited edit.Nothing h = h
edited (edit.Field r at v) h = record h { objects = changed h.objects r (with_field at v) }
edited (edit.Cell r at once) h = record h { objects = changed h.objects r (with_cell at once) }
edited (edit.Module class state) h = record h { modules = slice_set h.modules class state }
edited (edit.AddObject o) h = record h { objects = h.objects ++ o ∷ [] }
edited edit.AddLatch h = record h { latches = h.latches ++ false ∷ [] }
edited (edit.OpenLatch at) h = record h { latches = slice_set h.latches at true }
edited (edit.AddEvent e) h = record h { trace = h.trace ++ e ∷ [] }
