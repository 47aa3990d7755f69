use Rattle.std.proofs.Common.{sym, ap, refl, ◌∙◌}
use Rattle.lz_proto.specs.declared.state.State.TheVariants.{Waiting}
use Rattle.lz_proto.specs.declared.pos.Pos.TheVariants as pos
use Rattle.lz_proto.proofs.Writing.{swaps_keep}
use Rattle.lz_proto.proofs.Acting.{relied}
use Rattle.lz_proto.proofs.Own.{writes_kept}
use Rattle.lz_proto.proofs.proto.Proto.swap.Goals as goal

pub write-requires-clause-kept : goal.write-requires-clause-kept
write-requires-clause-kept c =
    rw c.content_of.ensures (writes_kept c.args.self.now c.requires.kept c.args.who c.requires.there (pos.Open c.args.latch c.args.ended_with) refl c.args.cell _ (_, swaps_keep c.args.self.now c.requires.kept.0 c.requires.kept.1 c.args.who c.requires.there c.args.cell (relied c.args.self.now c.requires.kept.0 c.requires.kept.1 c.args.who c.requires.there (pos.Swap c.args.cell c.args.ended_with c.args.latch) c.requires.at).0 c.args.ended_with c.args.latch c.requires.at (sym c.cell.ensures ∙ c.in-Waiting.is ∙ ap Waiting c.if-other-latch.true)))
