use Rattle.std.proofs.Common.{refl}
use Rattle.ty_prog.proofs.Places.{place_child, place_joined}
use Rattle.ty_prog.proofs.laws.placing.Goals as goal

pub returns : goal.returns
returns c = record {
  root = λ tree. refl;
  child = place_child;
  joined = place_joined;
}
