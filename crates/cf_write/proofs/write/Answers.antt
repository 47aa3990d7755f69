use Rattle.std.proofs.Common.{◌≡◌, ◌++◌, ◌∙◌, sym, ap, subst}
use Rattle.cf_form.specs.ClassFiles.{Spelled}
use Rattle.cf_write.specs.Spelling.{spelling}
use Rattle.cf_write.proofs.Spellings.{spelled_is, writable}
use Rattle.cf_write.proofs.write.Goals as goal

pub put_file-requires : goal.put_file-requires
put_file-requires c = writable c.args.file.now c.requires.0 c.requires.1

pub returns : goal.returns
returns c =
    let file = c.args.file.now in
    let made : c.put_file.new.into.items ≡ spelling file =
    c.in_ok-put_file.ensures ∙ ap (λ l. l ++ spelling file) c.new-bytes.ensures.items in
    subst (Spelled file) (spelled_is file c.requires.0 c.requires.1 ∙ sym made) c.requires.1
