use Rattle.std.proofs.Common.{sym, refl, ◌∙◌}
use Rattle.lz_proto.specs.declared.pos.Pos.TheVariants as pos
use Rattle.lz_proto.proofs.Acting.{relied, goes_on}
use Rattle.lz_proto.proofs.Own.{stands_kept}
use Rattle.lz_proto.proofs.proto.Proto.take.Goals as goal

pub stand-requires-clause-kept : goal.stand-requires-clause-kept
stand-requires-clause-kept c =
    stands_kept c.args.self.now c.requires.kept c.args.who c.requires.there (pos.Swap c.args.cell c.args.ended_with c.in-Waiting.latch) refl (goes_on c.args.self.now c.requires.kept.0 c.requires.kept.1 c.args.who c.requires.there (pos.Take c.args.cell c.args.ended_with) (pos.Swap c.args.cell c.args.ended_with c.in-Waiting.latch) c.requires.at refl (λ d. refl) ((relied c.args.self.now c.requires.kept.0 c.requires.kept.1 c.args.who c.requires.there (pos.Take c.args.cell c.args.ended_with) c.requires.at).0, sym c.cell.ensures ∙ c.in-Waiting.is) _ refl)
