use Rattle.std.proofs.Common.{refl}
use Rattle.vm_native.proofs.names.scalar.Goals as goal

pub returns : goal.returns
returns c = (c.ranges.character.0, refl)
