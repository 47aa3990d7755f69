use Rattle.std.proofs.Common.{◌∙◌, sym, ap, map-id}
use Rattle.std.proofs.lemmas.Iterator.{YieldsList-from_chars}
use Rattle.std.proofs.lemmas.Iterator.Consumers.{YieldsList-end}
use Rattle.std.specs.Str.{chars}
use Rattle.std.proofs.lemmas.Str.{chars-nil}
use Rattle.vm_state.specs.Heaps.{last_part}
use Rattle.vm_native.proofs.names.last_part.Goals as goal

pub returns : goal.returns
returns c =
    let done = YieldsList-end (YieldsList-from_chars c.args.text.now c.utf8.text cc) c.loop-character.yielded _ c.loop-character.yielded_by _ _ c.in-None.is c.next.ensures.steps in
    c.loop-character.invariant ∙ ap last_part (sym (map-id c.loop-character.yielded) ∙ done.0)

pub loop-character-init : goal.loop-character-init
loop-character-init c = ap chars c.new-part.ensures.bytes ∙ chars-nil
