use Rattle.ty_member.specs.Naming.{nothing_known}
use Rattle.ty_member.proofs.Filed.{all_files}
use Rattle.ty_member.proofs.laws.names_of_templates.Goals as goal

pub returns : goal.returns
unfolding nothing_known
returns c = λ unit known h. all_files unit.defs nothing_known known h
