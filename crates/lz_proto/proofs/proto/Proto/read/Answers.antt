use Rattle.std.proofs.Common.{sym, refl, ◌∙◌}
use Rattle.lz_proto.specs.declared.pos.Pos.TheVariants as pos
use Rattle.lz_proto.proofs.Acting.{read_keeps}
use Rattle.lz_proto.proofs.Own.{stands_kept}
use Rattle.lz_proto.proofs.proto.Proto.read.Goals as goal

pub stand-requires-clause-kept : goal.stand-requires-clause-kept
stand-requires-clause-kept c =
    stands_kept c.args.self.now c.requires.kept c.args.who c.requires.there (pos.Look c.args.cell) refl (read_keeps c.args.self.now c.requires.kept.0 c.requires.kept.1 c.args.who c.requires.there c.args.at c.args.cell c.requires.at _ (rw (sym c.has_ended.ensures ∙ c.if-has_ended.true, sym c.has_cell.ensures ∙ c.if-has_cell.true) refl))
