use Rattle.std.proofs.Common.{◌∙◌, sym, ap}
use Rattle.cf_write.specs.Spelling.{is_code_name}
use Rattle.cf_write.proofs.CodeNames.{name_test}
use Rattle.cf_write.proofs.code_name.is_code_name.Goals as goal

pub returns-in-Utf8 : goal.returns-in-Utf8
returns-in-Utf8 c =
    let told = c.as_str.ensures in
    c.eq.ensures ∙ name_test c.as_str.result.now c.in-Utf8.text told.bytes told.characters ∙ sym (ap is_code_name c.in-Utf8.is)
