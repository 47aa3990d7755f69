use Rattle.std.specs.String.{string_bytes}
use Rattle.std.proofs.lemmas.Str.{IsUtf8-string_bytes}
use Rattle.sl_lexer.proofs.Growing.{spelled_back}
use Rattle.sl_lexer.proofs.characters.text_of.Goals as goal

pub returns-clause-characters : goal.returns-clause-characters
returns-clause-characters c = spelled_back c.args.letters.now (string_bytes c.in_ok-text.text) (IsUtf8-string_bytes c.in_ok-text.text) c.in_ok-text.ensures
