use Rattle.std.proofs.Common.{sym, refl, ◌∙◌}
use Rattle.lz_proto.specs.declared.pos.Pos.TheVariants as pos
use Rattle.lz_proto.proofs.Latches.{installs_keep}
use Rattle.lz_proto.proofs.Acting.{relied, goes_on}
use Rattle.lz_proto.proofs.Own.{stands_kept, writes_kept}
use Rattle.lz_proto.proofs.proto.Proto.install.Goals as goal

pub write-requires-clause-kept : goal.write-requires-clause-kept
write-requires-clause-kept c = writes_kept c.args.self.now c.requires.kept c.args.who c.requires.there (pos.Look c.args.cell) refl c.args.cell _ (_, installs_keep c.args.self.now c.requires.kept.0 c.requires.kept.1 c.args.who c.requires.there c.args.cell c.args.latch c.in-Evaluating.thread c.requires.at (sym c.cell.ensures ∙ c.in-Evaluating.is) (c.if-thread-owner.true ∙ c.owner.ensures))

pub stand-requires-clause-kept : goal.stand-requires-clause-kept
stand-requires-clause-kept c =
    stands_kept c.args.self.now c.requires.kept c.args.who c.requires.there (pos.Look c.args.cell) refl (goes_on c.args.self.now c.requires.kept.0 c.requires.kept.1 c.args.who c.requires.there (pos.Install c.args.cell c.args.latch) (pos.Look c.args.cell) c.requires.at refl (λ d. refl) (relied c.args.self.now c.requires.kept.0 c.requires.kept.1 c.args.who c.requires.there (pos.Install c.args.cell c.args.latch) c.requires.at).0 _ refl)
