use Rattle.std.proofs.Common.{sym, refl, ◌∙◌}
use Rattle.lz_proto.specs.declared.pos.Pos.TheVariants as pos
use Rattle.lz_proto.proofs.Writing.{stores_keep}
use Rattle.lz_proto.proofs.Acting.{evaluating_same, ended_keeps, relied, goes_on, left_latched}
use Rattle.lz_proto.proofs.Own.{stands_kept, writes_kept}
use Rattle.lz_proto.proofs.Standing.{ended_unfound}
use Rattle.lz_proto.specs.Steps.{ended}
use Rattle.lz_proto.proofs.proto.Proto.store.Goals as goal
use Rattle.lz_proto.proofs.proto.Proto.store.Goals.{in_default-via-in-Evaluating+else-thread, in_default-via-in_default}

pub write-requires-clause-kept : goal.write-requires-clause-kept
write-requires-clause-kept c = rw (c.content_of.ensures, c.end_of.ensures) (writes_kept c.args.self.now c.requires.kept c.args.who c.requires.there (ended c.args.ended_with) (ended_unfound c.args.ended_with) c.args.cell _ (c.requires.kept.0, stores_keep c.args.self.now c.requires.kept.0 c.requires.kept.1 c.args.who c.requires.there c.args.cell (relied c.args.self.now c.requires.kept.0 c.requires.kept.1 c.args.who c.requires.there (pos.Store c.args.cell c.args.ended_with) c.requires.at) c.args.ended_with c.in-Evaluating.thread c.requires.at (sym c.cell.ensures ∙ c.in-Evaluating.is) (ended_keeps c.args.ended_with _ _ c.requires.kept.0 c.args.who)))

pub stand-requires-clause-kept : goal.stand-requires-clause-kept
stand-requires-clause-kept c =
    stands_kept c.args.self.now c.requires.kept c.args.who c.requires.there (pos.Take c.args.cell c.args.ended_with) refl (goes_on c.args.self.now c.requires.kept.0 c.requires.kept.1 c.args.who c.requires.there (pos.Store c.args.cell c.args.ended_with) (pos.Take c.args.cell c.args.ended_with) c.requires.at refl (λ d. refl) (relied c.args.self.now c.requires.kept.0 c.requires.kept.1 c.args.who c.requires.there (pos.Store c.args.cell c.args.ended_with) c.requires.at, left_latched c.args.self.now c.requires.kept.0 c.requires.kept.1 c.args.who c.requires.there c.args.cell c.args.ended_with c.requires.at (λ t is by. elim c.in_default.branch [ in_default-via-in-Evaluating+else-thread w ↦ w.if-thread.false (evaluating_same (sym w.in-Evaluating.is ∙ c.cell.ensures ∙ is) ∙ by ∙ sym w.thread.ensures) | in_default-via-in_default w ↦ w.in_default.not-Evaluating t (c.cell.ensures ∙ is) ])) _ refl)
