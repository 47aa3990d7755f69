-- An exception that leaves a part.
use Rattle.std.specs.Prelude.{ℕ, Some}
use Rattle.ty_prog.specs.declared.program.Program.{Program}
use Rattle.sm_state.specs.Layout.{made}
use Rattle.sm_state.specs.declared.heap.Heap.{Heap}
use Rattle.sm_state.specs.declared.module.Module.TheVariants as modules
use Rattle.sm_state.specs.declared.value.Value.TheVariants as value
use Rattle.sm_rule.specs.declared.answer.Edit.TheVariants as edit
use Rattle.sm_rule.specs.Edits.{edited}

-- an object definition is bad, and there is an ExceptionInInitializerError (JVMS 5.5)
abbrev pub replaced_heap : Program → ℕ → Heap → Heap
replaced_heap p class h = edited (edit.AddObject (made p.classes 14 (Some value.Null))) (edited (edit.Module class modules.Bad) h)
