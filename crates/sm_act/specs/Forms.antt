-- For proofs only: what small functions give.
use Rattle.std.specs.Prelude.{ℕ, Bool, true, false, List, ◌∷◌, Option, Some, None}
use Rattle.ty_prog.specs.declared.program.Program.{Program}
use Rattle.ty_prog.specs.declared.ty.Ty.{Ty}
use Rattle.ty_prog.specs.declared.ty.Ty.TheVariants as ty
use Rattle.sm_state.specs.Layout.{default_of}
use Rattle.sm_state.specs.declared.heap.Heap.{Heap}
use Rattle.sm_state.specs.declared.value.Value.{Value}
use Rattle.sm_state.specs.declared.value.Value.TheVariants as value
use Rattle.sm_rule.specs.Perform.{gives, fitting}
use Rattle.sm_rule.specs.declared.answer.Answer.{Answer}
use Rattle.sm_rule.specs.declared.answer.Edit.{Edit}
use Rattle.sm_rule.specs.declared.answer.Edit.TheVariants as edit

-- the first argument, where there is one, and those behind it
abbrev pub first_of : List (Option Value) → Option (Value × List (Option Value))
first_of (Some this ∷ args) = Some (this, args)
first_of other = None

-- the change that marks a thread as started
abbrev pub marked : ℕ → ℕ → Edit
marked r at = edit.Field r at (value.Bool true)

-- a value converted to a type that is no Int and no Long
abbrev pub plain_converted : Program → Heap → Ty → Value → Answer
plain_converted p h type value.Null = gives (default_of type)
plain_converted p h type v = fitting p h type v

-- whether a type is Int or Long
abbrev pub is_number : Ty → Bool
is_number ty.Int = true
is_number ty.Long = true
is_number other = false
