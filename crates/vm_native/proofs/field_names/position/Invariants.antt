use Rattle.std.proofs.Common.{◌≡◌, drop}
use Rattle.std.specs.List.{position_from}
use Rattle.vm_state.specs.Natives.{names_field}
use Rattle.vm_native.proofs.field_names.position.Given as goal

abbrev pub invariant-loop-i : goal.invariant-loop-i
invariant-loop-i l = position_from (names_field l.text l.c) l.i (drop l.i l.c.fields) ≡ position_from (names_field l.text l.c) 0 l.c.fields
