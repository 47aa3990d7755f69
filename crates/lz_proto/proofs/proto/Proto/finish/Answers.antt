use Rattle.std.proofs.Common.{refl, ◌∙◌}
use Rattle.lz_proto.specs.declared.pos.Pos.TheVariants as pos
use Rattle.lz_proto.proofs.Acting.{relied, goes_on}
use Rattle.lz_proto.proofs.Own.{stands_kept}
use Rattle.lz_proto.proofs.proto.Proto.finish.Goals as goal

pub stand-requires-clause-kept : goal.stand-requires-clause-kept
stand-requires-clause-kept c =
    let at = c.requires.at ∙ c.in-Body.is in
    stands_kept c.args.self.now c.requires.kept c.args.who c.requires.there (pos.Store c.in-Body.cell c.args.ended_with) refl (goes_on c.args.self.now c.requires.kept.0 c.requires.kept.1 c.args.who c.requires.there (pos.Body c.in-Body.cell) (pos.Store c.in-Body.cell c.args.ended_with) at refl (λ d. refl) (relied c.args.self.now c.requires.kept.0 c.requires.kept.1 c.args.who c.requires.there (pos.Body c.in-Body.cell) at) _ refl)
