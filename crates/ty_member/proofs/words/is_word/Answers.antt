use Rattle.std.proofs.Common.{◌≡◌, ◌∙◌, rules}
use Rattle.std.specs.Str.{bytes_eq}
use Rattle.ty_member.proofs.Ascii.{same_word}
use Rattle.ty_member.proofs.words.is_word.Goals as goal

pub returns : goal.returns
returns c =
    let same : c.eq.result ≡ bytes_eq c.as_str.result.now c.args.word.now = search rules in
    same ∙ same_word c.as_str.result.now c.args.word.now c.args.name.now c.as_str.utf8 c.as_str.ensures.characters c.requires
