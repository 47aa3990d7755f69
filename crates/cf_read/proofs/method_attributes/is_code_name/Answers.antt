use Rattle.std.proofs.Common.{ap, ◌∙◌, Option}
use Rattle.cf_form.specs.Pool.{text_by}
use Rattle.cf_form.specs.declared.constant.Const.{Const}
use Rattle.cf_read.specs.Reading.{is_code_name}
use Rattle.cf_read.proofs.InTurn.{code_tested}
use Rattle.cf_read.proofs.method_attributes.is_code_name.Goals as goal

pub returns-in-Some-Utf8 : goal.returns-in-Some-Utf8
returns-in-Some-Utf8 c =
    let test = code_tested c.in-Some-Utf8.text c.as_str.result.now c.eq.result c.eq.ensures c.as_str.ensures.bytes c.as_str.ensures.characters in
    let entry = rw c.in-Some-Utf8.field-0-is at c.in-Some-Utf8.ensures in
    test ∙ ap (λ (o : Option Const). is_code_name (text_by o)) entry
