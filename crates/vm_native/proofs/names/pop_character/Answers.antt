use Rattle.std.proofs.Common.{◌∙◌, ap, string_bytes}
use Rattle.std.specs.Str.{chars}
use Rattle.std.proofs.lemmas.Str.{IsUtf8-string_bytes}
use Rattle.vm_native.proofs.Characters.{chars_push, empty_text}
use Rattle.vm_native.proofs.names.pop_character.Goals as goal

pub returns-in-Some : goal.returns-in-Some
returns-in-Some c =
    rw c.scalar.ensures.1
    (ap chars c.in-Some.ensures.bytes
    ∙ chars_push (string_bytes c.pop.new.self) c.in-Some.character (IsUtf8-string_bytes c.pop.new.self) c.scalar.ensures.0)

pub returns-in-None : goal.returns-in-None
returns-in-None c = empty_text c.args.text.now c.in-None.ensures.none
