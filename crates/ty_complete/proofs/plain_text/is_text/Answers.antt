use Rattle.std.proofs.Common.{◌≡◌, rules}
use Rattle.std.specs.Str.{bytes_eq}
use Rattle.ty_complete.proofs.Ascii.{same_text}
use Rattle.ty_complete.proofs.plain_text.is_text.Goals as goal

pub returns : goal.returns
returns c =
    let same : c.eq.result ≡ bytes_eq c.as_str.result.now c.args.text.now = search rules in
    let decides = same_text _ _ _ _ c.as_str.utf8 c.as_str.ensures.characters c.requires same in
    search rules
