use Rattle.std.proofs.lemmas.Str.{IsUtf8-string_bytes}
use Rattle.sl_base.proofs.Texts.{text_again}
use Rattle.sl_base.proofs.name.Name.into_string.Goals as goal

pub returns-clause-bytes : goal.returns-clause-bytes
returns-clause-bytes c = text_again _ _ (IsUtf8-string_bytes c.self.inside.text) c.self.view_is
