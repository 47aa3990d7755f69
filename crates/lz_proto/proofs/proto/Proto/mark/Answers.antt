use Rattle.lz_proto.proofs.Latches.{marks_keep}
use Rattle.lz_proto.proofs.Own.{makes_kept}
use Rattle.lz_proto.proofs.proto.Proto.mark.Goals as goal

pub make-requires-clause-kept : goal.make-requires-clause-kept
make-requires-clause-kept c = makes_kept c.args.self.now c.requires.kept c.args.who c.args.cell c.args.thread c.requires.there (_, marks_keep c.args.self.now c.requires.kept.0 c.requires.kept.1 c.args.who c.requires.there c.args.cell c.args.thread c.requires.at)
