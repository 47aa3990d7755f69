use Rattle.std.proofs.Common.{◌≡◌, drop}
use Rattle.vm_state.specs.Natives.{slot_among}
use Rattle.vm_native.proofs.field_names.slot_among.Given as goal

abbrev pub invariant-loop-class : goal.invariant-loop-class
invariant-loop-class l = slot_among l.k l.text (drop l.class-index l.chain) ≡ slot_among l.k l.text l.chain
