use Rattle.std.proofs.Common.{rules, ◌≡◌}
use Rattle.std.specs.Str.{bytes_eq}
use Rattle.sl_base.proofs.Texts.{same_texts, compares_chars}
use Rattle.sl_base.proofs.name.NamePartialEq.eq.Goals as goal

pub returns-clause-value : goal.returns-clause-value
returns-clause-value c =
    let same_bytes : c.eq.result ≡ bytes_eq c.as_str.result.now c.as_str-2.result.now = search rules in
    compares_chars _ _ _ _ _ c.as_str.utf8 c.as_str-2.utf8 c.as_str.ensures.characters c.as_str-2.ensures.characters same_bytes

pub returns-clause-same : goal.returns-clause-same
returns-clause-same c =
    let same_bytes : c.eq.result ≡ bytes_eq c.as_str.result.now c.as_str-2.result.now = search rules in
    let decides = same_texts _ _ _ _ _ c.as_str.utf8 c.as_str-2.utf8 c.as_str.ensures.characters c.as_str-2.ensures.characters same_bytes in
    search rules
