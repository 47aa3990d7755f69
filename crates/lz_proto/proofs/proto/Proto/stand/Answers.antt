use Rattle.std.proofs.Common.{slice_set, subst, sym}
use Rattle.std.proofs.lemmas.List.{length-set}
use Rattle.lz_proto.specs.Kept.{IsKept}
use Rattle.lz_proto.proofs.proto.Proto.stand.Goals as goal

pub invariant_of-self : goal.invariant_of-self
invariant_of-self c = (
  subst (λ p. IsKept (record p { at = slice_set p.at c.args.who c.args.next })) (sym c.self.view_is) c.requires.kept,
  rw (length-set c.self.inside.at.items c.args.who c.args.next) c.self.invariant.1,
  c.self.invariant.2,
  c.self.invariant.3,
  c.self.invariant.4,
)
