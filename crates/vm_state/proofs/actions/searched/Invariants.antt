use Rattle.std.proofs.Common.{◌≡◌, drop}
use Rattle.vm_state.specs.Actions.{action_among}
use Rattle.vm_state.proofs.actions.searched.Given as goal

abbrev pub invariant-loop-row : goal.invariant-loop-row
invariant-loop-row l = action_among (drop l.row-index l.rows) l.op ≡ action_among l.rows l.op
