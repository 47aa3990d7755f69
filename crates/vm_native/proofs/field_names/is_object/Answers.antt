use Rattle.std.specs.Prelude.{codes}
use Rattle.vm_native.proofs.Characters.{object_chars}
use Rattle.vm_native.proofs.Literals.{compares_literal, object_bytes}
use Rattle.vm_native.proofs.field_names.is_object.Goals as goal

pub returns : goal.returns
returns c =
    compares_literal c.as_str.result.now c.args.descriptor.now (codes "Ljava/lang/Object;") c.eq.result c.as_str.utf8 c.as_str.ensures.characters object_chars object_bytes c.eq.ensures
