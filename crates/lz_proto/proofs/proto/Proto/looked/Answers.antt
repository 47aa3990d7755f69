use Rattle.std.proofs.Common.{sym, ◌∙◌}
use Rattle.lz_proto.proofs.Acting.{waits_for_made}
use Rattle.lz_proto.proofs.proto.Proto.looked.Goals as goal

pub owner-requires : goal.owner-requires
owner-requires c = waits_for_made c.args.self.now c.requires.kept.0 c.requires.kept.1 c.args.cell c.in-Waiting.latch (sym c.requires.held ∙ c.in-Waiting.is)
