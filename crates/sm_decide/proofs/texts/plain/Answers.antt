use Rattle.std.proofs.Common.{◌≡◌, subst}
use Rattle.std.specs.Prelude.{IfOk}
use Rattle.ty_prog.proofs.Plain.{plain_chars}
use Rattle.sm_decide.proofs.texts.plain.Goals as goal

pub returns : goal.returns
returns c = subst (λ text. IfOk c.from_text.result (λ name. name ≡ text)) (plain_chars c.args.text.now c.requires) c.from_text.ensures
