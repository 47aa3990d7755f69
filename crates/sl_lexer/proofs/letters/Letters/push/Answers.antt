use Rattle.std.specs.String.{string_bytes}
use Rattle.std.proofs.lemmas.Str.{IsUtf8-string_bytes}
use Rattle.sl_lexer.proofs.Growing.{grown_if}
use Rattle.sl_lexer.proofs.letters.Letters.push.Goals as goal

pub returns : goal.returns
returns c = grown_if c.push.result (string_bytes c.self.inside.text) (string_bytes c.push.new.self) c.args.self.now c.args.c (IsUtf8-string_bytes c.self.inside.text) (IsUtf8-string_bytes c.push.new.self) c.push.ensures.bytes c.self.view_is
