use Rattle.std.proofs.Common.{sym, refl, ◌∙◌}
use Rattle.lz_proto.specs.declared.pos.Pos.TheVariants as pos
use Rattle.lz_proto.proofs.Writing.{claims_keep}
use Rattle.lz_proto.proofs.Acting.{relied, goes_on}
use Rattle.lz_proto.proofs.Own.{stands_kept, writes_kept}
use Rattle.lz_proto.proofs.proto.Proto.claim.Goals as goal

pub write-requires-clause-kept : goal.write-requires-clause-kept
write-requires-clause-kept c = rw c.thread-thread.ensures (writes_kept c.args.self.now c.requires.kept c.args.who c.requires.there (pos.Body c.args.cell) refl c.args.cell _ (c.requires.kept.0, claims_keep c.args.self.now c.requires.kept.0 c.requires.kept.1 c.args.who c.requires.there c.args.cell (relied c.args.self.now c.requires.kept.0 c.requires.kept.1 c.args.who c.requires.there (pos.Claim c.args.cell) c.requires.at) c.requires.at (sym c.cell.ensures ∙ c.in-Empty.is)))

pub stand-requires : goal.stand-requires
stand-requires c = record {
  there = c.requires.there;
  kept = stands_kept c.args.self.now c.requires.kept c.args.who c.requires.there (pos.Look c.args.cell) refl (goes_on c.args.self.now c.requires.kept.0 c.requires.kept.1 c.args.who c.requires.there (pos.Claim c.args.cell) (pos.Look c.args.cell) c.requires.at refl (λ d. refl) (relied c.args.self.now c.requires.kept.0 c.requires.kept.1 c.args.who c.requires.there (pos.Claim c.args.cell) c.requires.at) _ refl);
}
