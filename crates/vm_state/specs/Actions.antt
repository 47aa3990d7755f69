-- What the table says that opcodes do (JVMS 6.5).
use Rattle.std.specs.Prelude.{ℕ, List, [], ◌∷◌, Option, None, Some, nat_eq, if◌then◌else◌}
use Rattle.vm_state.specs.declared.action.Action.{Action}
use Rattle.vm_state.specs.declared.actions.OpAction.{OpAction}
use Rattle.vm_state.specs.declared.actions.TheConstants.{ACTIONS}

-- what these rows say of an opcode
abbrev pub action_among : List OpAction → ℕ → Option Action
action_among [] op = None
action_among (row ∷ rows) op = if nat_eq op row.op then Some row.action else action_among rows op

-- what an opcode does; None where no row has it
unfoldable pub action_of : ℕ → Option Action
action_of op = action_among ACTIONS op
