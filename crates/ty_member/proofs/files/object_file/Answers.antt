use Rattle.std.proofs.Common.{ap, codes, ◌++◌, ◌∙◌, refl}
use Rattle.std.specs.Str.{chars}
use Rattle.std.proofs.lemmas.Slice.{pushed}
use Rattle.std.proofs.lemmas.Str.{chars-append, chars-IsAscii}
use Rattle.ty_member.proofs.Ascii.{all_ascii}
use Rattle.ty_member.proofs.files.object_file.Goals as goal

pub returns : goal.returns
returns c =
    let name = c.args.name.now in
    let text = c.as_str.result.now in
    let end = codes "$" in
    let whole = pushed end c.in_ok-text.ensures.ok c.in_ok-push_str.was c.push_str.ensures.bytes in
    c.from_string.ensures ∙ ap chars whole ∙ chars-append text end c.as_str.utf8
    ∙ ap (λ cs. cs ++ chars end) c.as_str.ensures.characters ∙ ap (λ cs. name ++ cs) (chars-IsAscii end (all_ascii end refl))
