use Rattle.std.proofs.Common.{◌∙◌, sym, ap, map-id}
use Rattle.std.proofs.lemmas.Iterator.{YieldsList-from_chars}
use Rattle.std.proofs.lemmas.Iterator.Consumers.{YieldsList-end}
use Rattle.vm_state.specs.Natives.{code_units}
use Rattle.vm_native.proofs.strings.code_units_of.Goals as goal

pub returns : goal.returns
returns c =
    let done = YieldsList-end (YieldsList-from_chars c.args.text.now c.utf8.text cc) c.loop-character.yielded _ c.loop-character.yielded_by _ _ c.in-None.is c.next.ensures.steps in
    c.loop-character.invariant ∙ ap code_units (sym (map-id c.loop-character.yielded) ∙ done.0)
