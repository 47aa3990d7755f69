use Rattle.std.proofs.Common.{◌∙◌, sym, ap, ◌++◌, append_assoc, map-id}
use Rattle.std.proofs.lemmas.Iterator.{YieldsList-from_chars}
use Rattle.std.proofs.lemmas.Iterator.Consumers.{YieldsList-end}
use Rattle.cf_mutf8.specs.ModifiedUtf8.{encoded}
use Rattle.cf_mutf8.proofs.Progress.{encoded_push}
use Rattle.cf_mutf8.proofs.encode.push_characters.Goals as goal

pub loop-character-preserved : goal.loop-character-preserved
loop-character-preserved c =
    rw (encoded_push, ← append_assoc, ← c.loop-character.invariant) c.in-Ok.ensures.ok

pub returns-in-Err-clause-err : goal.returns-in-Err-clause-err
returns-in-Err-clause-err c =
    let more = c.in-Err.ensures.err in
    let old = c.args.into.now.items in
    let read = encoded c.loop-character.yielded in
    (read ++ more.0, more.1 ∙ ap (λ l. l ++ more.0) c.loop-character.invariant ∙ append_assoc old read more.0)

pub returns-clause-ok : goal.returns-clause-ok
returns-clause-ok c =
    let done = YieldsList-end (YieldsList-from_chars c.args.text.now c.utf8.text cc) c.loop-character.yielded _ c.loop-character.yielded_by _ _ c.in-None.is c.next.ensures.steps in
    c.loop-character.invariant ∙ ap (λ cs. c.args.into.now.items ++ encoded cs) (sym (map-id c.loop-character.yielded) ∙ done.0)
