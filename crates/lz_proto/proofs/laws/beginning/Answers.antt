use Rattle.std.proofs.Common.{sym, subst}
use Rattle.lz_proto.specs.Kept.{IsKept}
use Rattle.lz_proto.proofs.New.{new_kept}
use Rattle.lz_proto.proofs.laws.beginning.Goals as goal

pub returns : goal.returns
returns c = λ n threads p new. subst IsKept (sym new) (new_kept n threads)
