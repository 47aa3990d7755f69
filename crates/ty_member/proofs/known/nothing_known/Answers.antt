use Rattle.std.proofs.Common.{rules}
use Rattle.ty_member.specs.Naming.{nothing_known}
use Rattle.ty_member.proofs.PreludeNames.{all}
use Rattle.ty_member.proofs.known.nothing_known.Goals as goal

pub returns : goal.returns
unfolding nothing_known
returns c = let names = all in search rules
