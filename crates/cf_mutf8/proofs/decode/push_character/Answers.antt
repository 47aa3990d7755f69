use Rattle.std.proofs.Common.{string_bytes}
use Rattle.std.proofs.lemmas.Str.{IsUtf8-string_bytes}
use Rattle.cf_mutf8.proofs.Progress.{read_push}
use Rattle.cf_mutf8.proofs.decode.push_character.Goals as goal

pub returns-in-Ok : goal.returns-in-Ok
returns-in-Ok c =
    read_push c.args.bytes.now (string_bytes c.args.text.now) _ c.args.at c.in-Some.character.value c.in-Some.character.size (IsUtf8-string_bytes c.args.text.now) c.requires.reads c.in-Some.ensures c.in-Ok.ensures.bytes
