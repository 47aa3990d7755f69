use Rattle.std.proofs.Common.{◌∙◌, ap, sym, string_bytes, Some}
use Rattle.std.proofs.lemmas.Str.{IsUtf8-string_bytes}
use Rattle.cf_read.proofs.Texts.{decoded_some, decoded_none}
use Rattle.cf_read.proofs.constants.text_of.Goals as goal

pub returns-in-Ok-clause-found : goal.returns-in-Ok-clause-found
returns-in-Ok-clause-found c =
    decoded_some c.args.bytes.now (string_bytes c.in-Ok.text) (IsUtf8-string_bytes c.in-Ok.text) c.in-Ok.ensures.text ∙ ap (λ t. Some t) (sym c.from_string.ensures)

pub returns-in-Err-BadUtf-clause-found : goal.returns-in-Err-BadUtf-clause-found
returns-in-Err-BadUtf-clause-found c =
    let at = c.in-Err-BadUtf._at in
    decoded_none c.args.bytes.now at ((c.in-Err-BadUtf.ensures.bad_utf at).0 (cc))
